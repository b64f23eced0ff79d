-- What the private readers give, without where it lies in memory.
use Rattle.std.specs.Borrow.{Bor}
use Rattle.std.specs.Prelude.{ℕ, List, Option}
use Rattle.ql_syntax.specs.Rules.{Round, More, Done}
use Rattle.ql_syntax.specs.internal.NumberParts.{decimal_of}
use Rattle.ql_syntax.specs.TokenRules.{Next, Word, Number}
use Rattle.ql_syntax.specs.declared.format.Format.{Format}
use Rattle.ql_syntax.specs.declared.out_options.OutOptions.{OutOptions}
use Rattle.ql_syntax.specs.declared.token_readers.WordSpot.{WordSpot}
use Rattle.ql_syntax.specs.declared.token_readers.NumberSpot.{NumberSpot}
use Rattle.ql_syntax.specs.declared.round.Round as reader
use Rattle.ql_syntax.specs.declared.round.Round.TheVariants as rounds
use Rattle.ql_syntax.specs.declared.token.Token.{Token}

-- what is left alone
abbrev pub the_rest : Bor (List ℕ) → Unit {0} × List ℕ
the_rest rest = (tt, rest.now)

abbrev pub next_of : Token → Next
next_of token = record { kind = token.kind; place = token.place.now }

abbrev pub the_token : Token → Next × List ℕ
the_token token = (next_of token, token.rest.now)

abbrev pub word_of : WordSpot → Word
word_of spot = record { word = spot.word.now; place = spot.place.now }

abbrev pub the_word : WordSpot → Word × List ℕ
the_word spot = (word_of spot, spot.rest.now)

abbrev pub number_of : NumberSpot → Number
number_of spot = record { number = decimal_of spot.number; place = spot.place.now }

abbrev pub the_number : NumberSpot → Number × List ℕ
the_number spot = (number_of spot, spot.number.rest.now)

-- the name of a set, or a key or value
abbrev pub the_bytes : (List ℕ × Bor (List ℕ)) → List ℕ × List ℕ
the_bytes found = (found.0, found.1.now)

-- the format that settings ask for
abbrev pub the_format : (Option Format × Bor (List ℕ)) → Option Format × List ℕ
the_format found = (found.0, found.1.now)

-- a state, and whether another round follows
abbrev pub round_of : {S : Type 0} → reader.Round → S → Round S S
round_of rounds.More state = More state
round_of rounds.Done state = Done state

abbrev pub the_setting_round : (reader.Round × Option Format × Bor (List ℕ)) → Round (Option Format) (Option Format) × List ℕ
the_setting_round found = (round_of found.0 found.1, found.2.now)

abbrev pub the_options : (OutOptions × Bor (List ℕ)) → OutOptions × List ℕ
the_options found = (found.0, found.1.now)

abbrev pub the_option_round : (reader.Round × OutOptions × Bor (List ℕ)) → Round OutOptions OutOptions × List ℕ
the_option_round found = (round_of found.0 found.1, found.2.now)
