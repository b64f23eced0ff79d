-- Which faults are told as the device's.
use Rattle.std.proofs.Common.{◌≡◌, ◌≢◌, Option, None, Some, Result, Err, refl}
use Rattle.std.specs.Prelude.{IsErrAnd, IsSome}
use Rattle.std.proofs.lemmas.Result.{err_from_is_err_and}
use Rattle.external_sort.specs.declared.fault.SortFault.{SortFault}
use Rattle.external_sort.specs.declared.fault.SortFault.TheVariants as sorts
use Rattle.tree_stream.specs.declared.levels_read.ReadBackFault.{ReadBackFault}
use Rattle.tree_stream.specs.declared.levels_read.ReadBackFault.TheVariants as reads
use Rattle.pack_assembly.specs.Faults.{fault_of_refusal, fault_of_unwritten, refusal_of_read, refusal_of_sort, unwritten_of_read}
use Rattle.pack_assembly.specs.declared.fault.AssemblyFault.TheVariants as faults
use Rattle.pack_assembly.specs.declared.refusal.Refusal.{Refusal}
use Rattle.pack_assembly.specs.declared.refusal.Refusal.TheVariants as refusals
use Rattle.pack_assembly.specs.declared.unwritten.Unwritten.{Unwritten}
use Rattle.pack_assembly.specs.declared.unwritten.Unwritten.TheVariants as unwritten

-- what the exit of a `?` tells
pub residual : {T F : Type 0} (r : Result T F) (x y : F) → IsErrAnd r (λ (z : F). z ≡ x) → r ≡ Err y → x ≡ y
residual r x y told is = let p = err_from_is_err_and r told in let a = p.1 in let b = p.2 in Prim.cc

-- what is there isn't none
pub none_there : {A : Type 0} (o : Option A) → o ≡ None → IsSome o → ⊥
none_there None is some = Prim.cc
none_there (Some x) is some = Prim.cc

-- only the device's refusal of a sorter, which takes what is short, is told as the device's
pub sort_device : (fault : SortFault) → fault ≢ sorts.TooLong → refusal_of_sort fault ≡ refusals.Device → fault ≡ sorts.Device
sort_device sorts.Memory short is = Prim.cc
sort_device sorts.Device short is = refl
sort_device sorts.TooLong short is = absurd (short refl)

-- and of levels,
pub read_device : (fault : ReadBackFault) → refusal_of_read fault ≡ refusals.Device → fault ≡ reads.Device
read_device reads.Memory is = Prim.cc
read_device reads.Device is = refl

pub read_unwritten : (fault : ReadBackFault) → unwritten_of_read fault ≡ unwritten.Device → fault ≡ reads.Device
read_unwritten reads.Memory is = Prim.cc
read_unwritten reads.Device is = refl

-- and of both together
pub refusal_device : (refusal : Refusal) → fault_of_refusal refusal ≡ faults.Device → refusal ≡ refusals.Device
refusal_device refusals.Memory is = Prim.cc
refusal_device refusals.Device is = refl

pub unwritten_device : (fault : Unwritten) → fault_of_unwritten fault ≡ faults.Device → fault ≡ unwritten.Device
unwritten_device unwritten.Device is = refl
unwritten_device unwritten.NotWritten is = Prim.cc
