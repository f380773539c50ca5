use Prim.Native.Nat.{ℕ, ◌-◌, ◌+◌, ◌*◌}
use mathlib.Core.Path.{◌≡◌, refl, sym, ap, ◌∙◌}
use mathlib.Core.Bool.{true}
use mathlib.Core.List.{[]}
use native.Mathlib.Omega.{arith}
use Rattle.text.specs.Bytes.{Bytes}
use Rattle.text.specs.Characters.{digit}
use Rattle.rules.specs.Grammar.{plain}
use Rattle.grammar.specs.Tokens.{toks_at}
use Rattle.grammar.proofs.Places.{text-step, text-inside}
use Rattle.grammar.proofs.Answers.{tells_at, tells-broken}
use Rattle.grammar.proofs.Numbers.{digit-bounds, digit-some, onward, onward-starts, onward-more, onward-letter, onward-ends, onward-over}
use Rattle.grammar.proofs.decimal.Goals as goal

-- a digit was read, and the number is one digit longer
longer : (kinds code : Bytes) (at n here : ℕ) {v m : ℕ} → v ≡ plain (toks_at kinds code here) → digit v ≡ true → m ≡ v - 48 → onward (toks_at kinds code at) n (toks_at kinds code here) ≡ onward (toks_at kinds code at) 0 (toks_at kinds code at)
    → onward (toks_at kinds code at) (n * 10 + m) (toks_at kinds code (here + 1)) ≡ onward (toks_at kinds code at) 0 (toks_at kinds code at)
longer kinds code at n here {v} read is worth inv = rw worth (sym (ap (onward (toks_at kinds code at) n) (text-step kinds code here v read (digit-some v is)) ∙ onward-more _ _ _ _ is) ∙ inv)

pub loop-n-init : goal.loop-n-init
loop-n-init c = (omega arith, c.text_at-c.ensures, λ kinds. refl)

pub overflow_sub-c : goal.overflow_sub-c
overflow_sub-c c = let low = (digit-bounds c.loop-n.c (sym c.digit.ensures ∙ c.loop-n-test.true)).0 in omega arith

pub overflow_add-n : goal.overflow_add-n
overflow_add-n c = let high = (digit-bounds c.loop-n.c (sym c.digit.ensures ∙ c.loop-n-test.true)).1 in let few = c.loop-n.invariant.0 in omega arith

pub overflow_add-here : goal.overflow_add-here
overflow_add-here c = let inside = text-inside [] _ _ _ (c.loop-n.invariant.1 []) (digit-some _ (sym c.digit.ensures ∙ c.loop-n-test.true)) in omega arith

pub returns-then-n-gt-LARGEST : goal.returns-then-n-gt-LARGEST
returns-then-n-gt-LARGEST c = λ kinds inner. tells-broken _ _ ∙ sym (onward-over _ _ _ c.if-n-gt-LARGEST.true) ∙ longer kinds _ _ _ _ (c.loop-n.invariant.1 kinds) (sym c.digit.ensures ∙ c.loop-n-test.true) c.from.ensures (c.loop-n.invariant.2 kinds) ∙ onward-starts inner _

pub loop-n-smaller : goal.loop-n-smaller
loop-n-smaller c = let inside = text-inside [] _ _ _ (c.loop-n.invariant.1 []) (digit-some _ (sym c.digit.ensures ∙ c.loop-n-test.true)) in omega arith

pub loop-n-preserved : goal.loop-n-preserved
loop-n-preserved c = (c.if-n-gt-LARGEST.false, c.text_at-c-in-loop-n.ensures, λ kinds. longer kinds _ _ _ _ (c.loop-n.invariant.1 kinds) (sym c.digit.ensures ∙ c.loop-n-test.true) c.from.ensures (c.loop-n.invariant.2 kinds))

pub returns-then-letter : goal.returns-then-letter
returns-then-letter c = λ kinds inner. tells-broken _ _ ∙ sym (onward-letter _ _ _ c.loop-n.invariant.0 (c.loop-n.invariant.1 kinds) (sym c.digit.ensures ∙ c.loop-n-test.false) (sym c.letter.ensures ∙ c.if-letter.true)) ∙ c.loop-n.invariant.2 kinds ∙ onward-starts inner _

pub returns : goal.returns
returns c = λ kinds inner. tells_at _ _ ∙ sym (onward-ends _ _ _ c.loop-n.invariant.0 (c.loop-n.invariant.1 kinds) (sym c.digit.ensures ∙ c.loop-n-test.false) (sym c.letter.ensures ∙ c.if-letter.false)) ∙ c.loop-n.invariant.2 kinds ∙ onward-starts inner _
