-- Out statements: `out`, and then in any order at most one mode, one order and one number.
-- Source: the Overpass QL page of the OpenStreetMap wiki, "Output action"; that `body` is the default mode,
-- that an order has no effect, and which words are left out, is this project's.
use Rattle.std.specs.Prelude.{◌≡◌, ℕ, Bool, true, false, List, None, Some}
use Rattle.std.specs.Option.{is_some}
use Rattle.ql_syntax.specs.OutWords.{out_word}
use Rattle.ql_syntax.specs.TokenRules.{Word, Number, next_token, unexpected, word_at, number_at, begins_number}
use Rattle.ql_syntax.specs.Rules.{Rule, ◌>>=◌, give, refuse, choose, by_case, repeat, Round, More, Done}
use Rattle.ql_syntax.specs.WholeNumbers.{count_of}
use Rattle.ql_syntax.specs.declared.cause.QlCause.TheVariants as causes
use Rattle.ql_syntax.specs.declared.out_options.OutOptions.{OutOptions}
use Rattle.ql_syntax.specs.declared.out_word.OutWord.{OutWord}
use Rattle.ql_syntax.specs.declared.out_word.OutWord.TheVariants as words
use Rattle.ql_syntax.specs.declared.token_kind.TokenKind.TheVariants as kinds

-- what may be said once: it was said before, or this is the first time
abbrev pub once : {A : Type 0} → Bool → List ℕ → A → Rule A
once true place value = refuse causes.UnexpectedWord place
once false place value = give value

abbrev pub out_word_at : OutOptions → List ℕ → OutWord → Rule OutOptions
out_word_at seen place (words.Mode mode) = once (is_some seen.mode) place (record { mode = Some mode; ordered = seen.ordered; limit = seen.limit })
out_word_at seen place words.Order = once seen.ordered place (record { mode = seen.mode; ordered = true; limit = seen.limit })
out_word_at seen place words.Unsupported = refuse causes.Unsupported place
out_word_at seen place words.Unknown = refuse causes.UnexpectedWord place

-- the options with this word too
unfoldable pub with_word : OutOptions → Word → Rule OutOptions
with_word seen word = by_case (out_word word.word) (out_word_at seen word.place)

-- the options with this number too
unfoldable pub with_number : OutOptions → Number → Rule OutOptions
with_number seen number = do
  first ← once (is_some seen.limit) number.place seen
  limit ← count_of number.number number.place
  give (record { mode = seen.mode; ordered = seen.ordered; limit = Some limit })

-- one option of several, or the `;` after the last
unfoldable pub out_round : OutOptions → Rule (Round OutOptions OutOptions)
out_round seen = do
  next ← next_token
  choose (next.kind ≡ kinds.Word) (do
    word ← word_at next
    more ← with_word seen word
    give (More more))
      (choose (begins_number next.kind ≡ true) (do
        number ← number_at next
        more ← with_number seen number
        give (More more))
      (choose (next.kind ≡ kinds.OpenParenthesis) (refuse causes.Unsupported next.place)
      (choose (next.kind ≡ kinds.Semicolon) (give (Done seen)) (unexpected next))))

-- all that follows `out`, and its `;`
unfoldable pub out_options : Rule OutOptions
out_options = repeat out_round (record { mode = None; ordered = false; limit = None })
