-- What explains a fault.
use Rattle.std.proofs.Common.{◌≡◌, ◌≢◌, ◌⊎◌, inl, inr, ℕ, List, None, Option, Some, refl, subst}
use Rattle.ql_syntax.specs.Queries.{HasFault}
use Rattle.ql_syntax.specs.declared.fault.QlFault.{QlFault}
use Rattle.ql_syntax.proofs.shared.QueryLaws.{one_fault, reads_or_not}
use Rattle.osm_check.specs.Verdicts.{IsReadable}
use Rattle.osm_packs.specs.Querying.{Explains, ExplainsInFiles, HasFaultyHeader}
use Rattle.osm_packs.specs.declared.not_answered.NotAnswered.{NotAnswered}
use Rattle.osm_packs.specs.declared.not_answered.NotAnswered.TheVariants.{Device, Evaluation, Memory, Node, OtherRoot, Pack, Query, Work}
use Rattle.node_pack.specs.declared.fault.PackFault.{PackFault}
use Rattle.node_pack.specs.declared.fault.PackFault.TheVariants as packs
use Rattle.outside_shelf.specs.declared.refused.Refused.TheVariants as reasons
use Rattle.osm_query_web.specs.declared.stated.Stated.{Stated}
use Rattle.osm_query_web.specs.internal.CallResults.{ExplainsBy}

faulty_or_device : (P Q : List ℕ → Type 0) → ((file : List ℕ) → Q file → P file) → (fault : PackFault) → (fault ≡ packs.Device) ⊎ HasFaultyHeader P fault → (fault ≡ packs.Device) ⊎ HasFaultyHeader Q fault
faulty_or_device P Q of fault (inl device) = inl device
faulty_or_device P Q of fault (inr faulty) = inr (λ file reads. faulty file (of file reads))

-- what explains it of some files explains it of fewer
explains_of : (P Q : List ℕ → Type 0) → ((file : List ℕ) → Q file → P file) → (query root : List ℕ) (fault : NotAnswered) → Explains P query root fault → Explains Q query root fault
explains_of P Q of query root (Query fault) has = has
explains_of P Q of query root (Pack fault) has = (has.0, has.1, faulty_or_device P Q of fault has.2)
explains_of P Q of query root OtherRoot has = (has.0, λ file reads. has.1 file (of file reads))
explains_of P Q of query root (Node reason) has = (has.0, (λ file reads. has.1 file (of file reads)), has.2)
explains_of P Q of query root (Evaluation fault) has = (has.0, (λ file reads. has.1 file (of file reads)), has.2, has.3)
explains_of P Q of query root Work has = (has.0, λ file reads. has.1 file (of file reads))
explains_of P Q of query root Memory has = tt
explains_of P Q of query root Device has = (has.0, λ file reads. has.1 file (of file reads))

-- a query with a fault doesn't read
pub unread : (query : List ℕ) (fault : QlFault) → HasFault query fault → ¬ IsReadable query
unread query fault has readable = reads_or_not query readable.0 fault readable.1 has

-- and nothing but its fault explains why it isn't answered, unless memory runs out
its_fault : (R : List ℕ → Type 0) (query root : List ℕ) (has : QlFault) → HasFault query has → (fault : NotAnswered) → fault ≢ Memory → Explains R query root fault → fault ≡ Query has
its_fault R query root has is (Query fault) unless explained = let same = one_fault query fault has explained is in cc
its_fault R query root has is (Pack fault) unless explained = absurd (unread query has is explained.0)
its_fault R query root has is OtherRoot unless explained = absurd (unread query has is explained.0)
its_fault R query root has is (Node reason) unless explained = absurd (unread query has is explained.0)
its_fault R query root has is (Evaluation fault) unless explained = absurd (unread query has is explained.0)
its_fault R query root has is Work unless explained = absurd (unread query has is explained.0)
its_fault R query root has is Memory unless explained = absurd (unless refl)
its_fault R query root has is Device unless explained = absurd (unread query has is explained.0)

-- the same of files that are read as one
its_fault_in_files : (query root stated : List ℕ) (has : QlFault) → HasFault query has → (fault : NotAnswered) → fault ≢ Memory → ExplainsInFiles query root stated fault → fault ≡ Query has
its_fault_in_files query root stated has is (Query fault) unless explained = let same = one_fault query fault has explained is in cc
its_fault_in_files query root stated has is (Pack fault) unless explained = absurd (unread query has is explained.0)
its_fault_in_files query root stated has is OtherRoot unless explained = absurd (unread query has is explained.0)
its_fault_in_files query root stated has is (Node reason) unless explained = absurd (unread query has is explained.0)
its_fault_in_files query root stated has is (Evaluation fault) unless explained = absurd (unread query has is explained.0)
its_fault_in_files query root stated has is Work unless explained = absurd (unread query has is explained.0)
its_fault_in_files query root stated has is Memory unless explained = absurd (unless refl)
its_fault_in_files query root stated has is Device unless explained = absurd (unread query has is explained.0)

-- and of either
pub its_fault_by : (stated : Option Stated) (R : List ℕ → Type 0) (query root : List ℕ) (has : QlFault) → HasFault query has → (fault : NotAnswered) → fault ≢ Memory → ExplainsBy stated R query root fault → fault ≡ Query has
its_fault_by None R query root has is fault unless explained = its_fault R query root has is fault unless explained
its_fault_by (Some stated) R query root has is fault unless explained = its_fault_in_files query root stated.root.0 has is fault unless explained

-- what explains it of some files explains it of fewer
pub explains_by : (stated : Option Stated) (P Q : List ℕ → Type 0) → ((file : List ℕ) → Q file → P file) → (query root : List ℕ) (fault : NotAnswered) → ExplainsBy stated P query root fault → ExplainsBy stated Q query root fault
explains_by None P Q of query root fault has = explains_of P Q of query root fault has
explains_by (Some stated) P Q of query root fault has = has

-- where the device is at fault, the query reads
pub device_readable : (stated : Option Stated) (R : List ℕ → Type 0) (query root : List ℕ) (fault : NotAnswered) → (fault ≡ Pack packs.Device) ⊎ (fault ≡ Node reasons.Device) → ExplainsBy stated R query root fault → IsReadable query
device_readable None R query root fault (inl is) explained = (subst (Explains R query root) is explained).0
device_readable None R query root fault (inr is) explained = (subst (Explains R query root) is explained).0
device_readable (Some stated) R query root fault (inl is) explained = (subst (ExplainsInFiles query root stated.root.0) is explained).0
device_readable (Some stated) R query root fault (inr is) explained = (subst (ExplainsInFiles query root stated.root.0) is explained).0
