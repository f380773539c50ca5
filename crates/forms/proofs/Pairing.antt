-- The scan for the `)` that pairs with the `(` at the start, by place. Assumes nothing.
use Prim.Native.Nat.{ℕ, suc, ◌+◌, ◌≤◌, ◌<◌}
use native.Mathlib.Omega.{arith}
use mathlib.Core.Path.{◌≡◌, refl, sym, ap, ◌∙◌}
use mathlib.Core.Bool.{Bool, true, false}
use mathlib.Core.List.{List, [], ◌∷◌}
use lib.Dec.{eqb}
use lib.ListN.{length, get_or}
use borrow.Author.Tests.{eq-eqb, ne_eqb}
use Rattle.text.specs.Bytes.{Bytes}
use Rattle.rules.specs.Choice.{choose, passed}
use Rattle.rules.specs.Lexemes.{Lex, byte_of, outside, enters}
use Rattle.rules.specs.Statement.{pairs_first, starts_open, condition_end}
use Rattle.rules.specs.Grammar.{Kind, plain}
use Rattle.rules.proofs.Choices.{chosen, passed_over}
use Rattle.grammar.specs.Tokens.{lex_of, toks_at}
use Rattle.grammar.proofs.Places.{toks-end, toks-step}
use Rattle.forms.specs.Pairs.{pairs_by, quoted_by, depth_by}

-- ---- from a place on

-- where the scan stops that goes on from a place
unfoldable pub pair_from : Bytes → Bytes → ℕ → Bool → ℕ → ℕ
pair_from kinds code at quoted depth = at + passed pairs_first enters (record { quoted = quoted; depth = depth }) (toks_at kinds code at)

module _ (kinds code : Bytes) where
  pub from_start : pair_from kinds code 0 false 0 ≡ passed pairs_first enters outside (toks_at kinds code 0)
  unfolding pair_from outside
  from_start = omega arith

  module _ (at : ℕ) (quoted : Bool) (depth : ℕ) where
    pub pair-none : length code ≤ at → pair_from kinds code at quoted depth ≡ at
    unfolding pair_from passed
    pair-none h = rw (toks-end kinds code at h) (omega arith)

    module _ (inside : at < length code) {c : ℕ} (read : c ≡ plain (toks_at kinds code at)) where
      lex : Lex Kind
      lex = lex_of kinds (get_or code at 0)

      step : toks_at kinds code at ≡ lex ∷ toks_at kinds code (at + 1)
      unfolding lex
      step = toks-step kinds code at inside

      shown : c ≡ byte_of lex
      unfolding plain
      shown = read ∙ ap plain step

      onward : ℕ → ℕ
      onward b = choose (pairs_by b quoted depth) 0 (suc (passed pairs_first enters (record { quoted = quoted_by b quoted; depth = depth_by b quoted depth }) (toks_at kinds code (at + 1))))

      scanned : pair_from kinds code at quoted depth ≡ at + onward c
      unfolding pair_from passed pairs_first enters pairs_by quoted_by depth_by onward
      scanned = ap (λ x. at + passed pairs_first enters (record { quoted = quoted; depth = depth }) x) step ∙ ap (λ b. at + onward b) (sym shown)

      pub pair_found : pairs_by c quoted depth ≡ true → pair_from kinds code at quoted depth ≡ at
      unfolding onward
      pair_found h = scanned ∙ ap (λ n. at + n) (chosen _ _ h) ∙ omega arith

      pub pair-on : pairs_by c quoted depth ≡ false → {q : Bool} {d : ℕ} → q ≡ quoted_by c quoted → d ≡ depth_by c quoted depth → pair_from kinds code at quoted depth ≡ pair_from kinds code (at + 1) q d
      unfolding pair_from onward
      pair-on h e f = rw (e, f) (scanned ∙ ap (λ n. at + n) (passed_over _ _ h) ∙ omega arith)

-- ---- AIF's condition

starts-plain : (x : List (Lex Kind)) → starts_open x ≡ eqb (plain x) 40
unfolding starts_open plain
starts-plain [] = refl
starts-plain (y ∷ x) = refl

module _ (x : List (Lex Kind)) {c : ℕ} (read : c ≡ plain x) where
  pub end_none : (c ≡ 40 → ⊥) → 0 ≡ condition_end x
  unfolding condition_end
  end_none h = sym (passed_over _ _ (starts-plain x ∙ ne_eqb (plain x) 40 (λ e. h (read ∙ e))))

  pub end-at : c ≡ 40 → {n : ℕ} → n ≡ passed pairs_first enters outside x → n + 1 ≡ condition_end x
  unfolding condition_end
  end-at h {n} e = (let p : n + 1 ≡ suc (passed pairs_first enters outside x) = omega arith in p) ∙ sym (chosen _ _ (starts-plain x ∙ eq-eqb (plain x) 40 (sym read ∙ h)))
