-- Writing a field over a lent buffer piece by piece: a loop's invariant says what finishing from here gives, so that each turn is one law. Assumes nothing.
use Prim.Native.Nat.{ℕ, ◌+◌, ◌≤◌}
use mathlib.Core.Path.{◌≡◌, refl, ap, sym, ◌∙◌}
use mathlib.Core.Bool.{Bool, false}
use mathlib.Core.List.{[]}
use lib.ListN.{length, drop, replicate, length-append, length-replicate, drop_of_length-le}
use Rattle.text.specs.Bytes.{Bytes}
use Rattle.rules.specs.Lexemes.{Before, field_start, marked, symbols, lexed}
use Rattle.lent.specs.Splice.{splice}
use Rattle.lent.proofs.Writes.{splice-append}
use Rattle.names.specs.Names.{slot_byte}
use Rattle.coding.specs.Coded.{codes_from, field_code, behind, Leads}
use Rattle.coding.specs.declared.Piece.{Piece}

-- a field from its start on, and at its end
pub from_start : (quotes : Bool) (own global shared field : Bytes)
    → codes_from (slot_byte own global shared) quotes (record { second = 32; first = 32; quoted = false }) field ≡ field_code quotes own global shared field
unfolding codes_from field_code lexed field_start
from_start quotes own global shared field = refl

module _ (f : Bytes → ℕ) (quotes : Bool) (field : Bytes) (at : ℕ) (b : Before) where
  pub codes-end : length field ≤ at → codes_from f quotes b (drop at field) ≡ []
  unfolding codes_from marked symbols
  codes-end h = ap (codes_from f quotes b) (drop_of_length-le field h)

  -- a piece further
  module _ (p : Piece) (l : Leads f quotes field at b p) where
    abbrev after : Bytes
    after = codes_from f quotes (behind p) (drop p.next field)

    pub leads-size : length (codes_from f quotes b (drop at field)) ≡ p.count + length after
    leads-size = ap length l.codes ∙ (length-append (replicate p.count p.byte) after ∙ ap (◌+ length after) (length-replicate p.count p.byte))

    pub leads-splice : (out new : Bytes) (to : ℕ) → new ≡ splice out to (replicate p.count p.byte)
        → splice new (to + p.count) after ≡ splice out to (codes_from f quotes b (drop at field))
    leads-splice out new to e =
        ap (λ o. splice o (to + p.count) after) e
        ∙ (ap (λ (n : ℕ). splice (splice out to (replicate p.count p.byte)) (to + n) after) (sym (length-replicate p.count p.byte))
        ∙ (splice-append out to (replicate p.count p.byte) after ∙ ap (splice out to) (sym l.codes)))
