-- The flags that matches have.
use Rattle.std.proofs.Common.{◌≡◌, Bool, Option, Some, None, ap, refl, codes, false, true}
use Rattle.clap.specs.Words.{Text}
use Rattle.command_line.specs.Flags.{IsFlag}

-- what `get_flag` reads of the text is its flag
pub flag_read : (text : Option Text) (flag : Bool)
    → (text ≡ None → flag ≡ false) → (text ≡ Some (codes "true") → flag ≡ true) → (text ≡ Some (codes "false") → flag ≡ false)
    → IsFlag text flag
flag_read None flag none given other = none refl
flag_read (Some text) flag none given other = (λ e. given (ap Some e), λ e. other (ap Some e))
