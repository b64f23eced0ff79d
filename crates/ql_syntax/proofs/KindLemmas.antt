-- Kinds of tokens with which a number begins, and others.
use Rattle.std.proofs.Common.{◌≡◌, true, false, refl, sym, ◌∙◌, ap, inl, inr, ◌⊎◌}
use Rattle.ql_syntax.specs.TokenRules.{begins_number}
use Rattle.ql_syntax.specs.declared.token_kind.TokenKind.{TokenKind}
use Rattle.ql_syntax.specs.declared.token_kind.TokenKind.TheVariants as kinds

pub begins : {kind : TokenKind} → (kind ≡ kinds.Number) ⊎ (kind ≡ kinds.Minus) → begins_number kind ≡ true
begins (inl is) = ap begins_number is
begins (inr is) = ap begins_number is

pub no_word : {kind : TokenKind} → (kind ≡ kinds.Number) ⊎ (kind ≡ kinds.Minus) → kind ≡ kinds.Word → ⊥
no_word (inl is) word = let bad : kinds.Number ≡ kinds.Word = sym is ∙ word in cc
no_word (inr is) word = let bad : kinds.Minus ≡ kinds.Word = sym is ∙ word in cc

pub no_number : {kind : TokenKind} (found : TokenKind) → begins_number found ≡ false → kind ≡ found → begins_number kind ≡ true → ⊥
no_number found none is holds = let bad : false ≡ true = sym none ∙ (sym (ap begins_number is) ∙ holds) in cc

of_number : (kind : TokenKind) → begins_number kind ≡ true → (kind ≡ kinds.Number) ⊎ (kind ≡ kinds.Minus)
of_number kinds.Number holds = inl refl
of_number kinds.Minus holds = inr refl
of_number kinds.End holds = absurd (cc)
of_number kinds.Word holds = absurd (cc)
of_number kinds.Quote holds = absurd (cc)
of_number kinds.OpenBracket holds = absurd (cc)
of_number kinds.CloseBracket holds = absurd (cc)
of_number kinds.OpenParenthesis holds = absurd (cc)
of_number kinds.CloseParenthesis holds = absurd (cc)
of_number kinds.Semicolon holds = absurd (cc)
of_number kinds.Comma holds = absurd (cc)
of_number kinds.Colon holds = absurd (cc)
of_number kinds.Equal holds = absurd (cc)
of_number kinds.NotEqual holds = absurd (cc)
of_number kinds.NotTilde holds = absurd (cc)
of_number kinds.Not holds = absurd (cc)
of_number kinds.Tilde holds = absurd (cc)
of_number kinds.Dot holds = absurd (cc)
of_number kinds.Arrow holds = absurd (cc)
of_number kinds.Down holds = absurd (cc)
of_number kinds.DownAll holds = absurd (cc)
of_number kinds.Up holds = absurd (cc)
of_number kinds.UpAll holds = absurd (cc)
of_number kinds.Other holds = absurd (cc)

pub neither : {kind : TokenKind} → (kind ≡ kinds.Number → ⊥) → (kind ≡ kinds.Minus → ⊥) → begins_number kind ≡ true → ⊥
neither {kind = kind} number minus holds = elim (of_number kind holds) [ inl is ↦ number is | inr is ↦ minus is ]
