mod BuildLemmas
mod SinkLemmas
