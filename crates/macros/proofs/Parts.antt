-- A macro's parts written one behind another. Assumes nothing.
use Prim.Native.Nat.{ℕ, ◌+◌}
use native.Mathlib.Omega.{arith}
use mathlib.Core.Path.{◌≡◌}
use mathlib.Core.List.{List, ◌++◌, map}
use lib.ListN.{length, length-append}
use Rattle.text.specs.Bytes.{Bytes}
use Rattle.rules.specs.Statement.{Set}
use Rattle.rules.specs.Grammar.{symbol}
use Rattle.deck.specs.Coding.{list_of}
use Rattle.deck.specs.Coders.{kind}
use Rattle.grammar.specs.Kinds.{number_of}
use Rattle.lent.specs.Splice.{splice}
use Rattle.writing.proofs.Writes.{both-written, both_end}
use Rattle.writing.proofs.Coded.{kinds-end}
use Rattle.headers.specs.Headers.{header_of}
use Rattle.bodies.specs.Lines.{body_in}
use Rattle.macros.specs.Macros.{parts_put}

module _ (p : Bytes) (ks : List Set) (own global shared body : Bytes) where
  abbrev kinds_put : Bytes
  kinds_put = (list_of kind).put ks

  abbrev body_put : Bytes
  body_put = body_in own global shared body

  pub parts-length : length (parts_put p ks own global shared body) ≡ length (header_of p) + (length ((list_of kind).put ks) + length (body_in own global shared body))
  unfolding parts_put
  parts-length = omega (arith, length-append (header_of p) (kinds_put ++ body_put), length-append kinds_put body_put)

  pub kinds-length : (s : Bytes) → s ≡ map (λ k. number_of (symbol k)) ks → length ((list_of kind).put ks) ≡ length s + 2
  kinds-length s e = omega (arith, kinds-end s ks e 0)

  -- the head, the kinds and the lines, each where the one before it ends
  pub parts-done : (out o₁ o₂ o₃ : Bytes) (at a₁ a₂ a₃ : ℕ) → a₁ ≡ at + length (header_of p) → a₂ ≡ a₁ + length ((list_of kind).put ks) → a₃ ≡ a₂ + length (body_in own global shared body)
      → o₁ ≡ splice out at (header_of p) → o₂ ≡ splice o₁ a₁ ((list_of kind).put ks) → o₃ ≡ splice o₂ a₂ (body_in own global shared body)
      → (a₃ ≡ at + length (parts_put p ks own global shared body)) × (o₃ ≡ splice out at (parts_put p ks own global shared body))
  unfolding parts_put
  parts-done out o₁ o₂ o₃ at a₁ a₂ a₃ e₁ e₂ e₃ w₁ w₂ w₃ = (
    both_end out at (header_of p) (kinds_put ++ body_put) a₁ e₁ a₃ (both_end o₁ a₁ kinds_put body_put a₂ e₂ a₃ e₃),
    both-written out at (header_of p) (kinds_put ++ body_put) a₁ e₁ o₁ o₃ w₁ (both-written o₁ a₁ kinds_put body_put a₂ e₂ o₂ o₃ w₂ w₃),
  )
