use Rattle.opl_codec.proofs.shared.OneEscapedText.{escaped_canonical, one_escaped_text}
use Rattle.opl_codec.proofs.laws.one_escaped_text.Goals as goal

pub returns : goal.returns
returns c = record { canonical = escaped_canonical; only = one_escaped_text }
