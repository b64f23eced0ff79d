use Rattle.opl_codec.proofs.shared.OneNumberText.{number_canonical, one_number_text, one_version_text, version_canonical}
use Rattle.opl_codec.proofs.laws.one_number_text.Goals as goal

pub returns : goal.returns
returns c = record { version = version_canonical; only_version = one_version_text; number = number_canonical; only_number = one_number_text }
