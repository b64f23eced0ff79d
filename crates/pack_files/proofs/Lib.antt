mod FirstLemmas
mod FurtherLemmas
mod JoinedLemmas
mod OverLemmas
