-- What a name is, by cases as the code tests them; and that it is what the deck's definition resolves it to. Assumes nothing.
use Prim.Native.Nat.{ℕ, suc, ◌+◌, ◌/◌, ◌≤◌, ◌<◌, min}
use native.Mathlib.Omega.{arith}
use mathlib.Core.Path.{◌≡◌, refl, ap, sym, ◌∙◌}
use mathlib.Core.Bool.{Bool, true, false}
use mathlib.Core.List.{List, [], ◌∷◌}
use lib.Dec.{ltb}
use lib.ListN.{length}
use borrow.Author.Tests.{lt-ltb, le-ltb}
use Rattle.text.specs.Bytes.{Bytes, bytes, same}
use Rattle.text.specs.Words.{place_among}
use Rattle.rules.specs.Statement.{Set}
use Rattle.rules.specs.Library.{Names, firsts}
use Rattle.rules.specs.ByLines.{own_names}
use Rattle.rules.proofs.Symbols.{length-firsts}
use Rattle.rules.proofs.Choices.{chosen, passed_over, either}
use Rattle.deck.specs.Slots.{Slot, own, shared as globally, list, index, section, nowhere, system_slot, resolved}
use Rattle.deck.specs.Coders.{own_code, shared_code, list_code, index_code, section_code, unknown_code, no_code, slot_code}
use Rattle.names.specs.Names.{names_in, slot_in, slot_byte}
use Rattle.names.proofs.Rows.{names-length}

-- ---- the system symbols

abbrev system_byte : Bytes → ℕ
system_byte n = min (slot_code (system_slot n)) no_code

module _ (n : Bytes) where
  slot-byte-is : {s : Slot} {b : ℕ} → min (slot_code s) no_code ≡ b → system_slot n ≡ s → b ≡ system_byte n
  slot-byte-is e f = sym (ap (λ t. min (slot_code t) no_code) f ∙ e)

  pub is-list : same n (bytes "SYSLIST") ≡ true → list_code ≡ system_byte n
  unfolding system_slot slot_code
  is-list e = slot-byte-is {s = list} refl (chosen _ _ e)

  module _ (a : same n (bytes "SYSLIST") ≡ false) where
    pub is-index : same n (bytes "SYSNDX") ≡ true → index_code ≡ system_byte n
    unfolding system_slot slot_code
    is-index e = slot-byte-is {s = index} refl (passed_over _ _ a ∙ chosen _ _ e)

    module _ (b : same n (bytes "SYSNDX") ≡ false) where
      pub is-section : same n (bytes "SYSECT") ≡ true → section_code ≡ system_byte n
      unfolding system_slot slot_code
      is-section e = slot-byte-is {s = section} refl (passed_over _ _ a ∙ (passed_over _ _ b ∙ chosen _ _ e))

      pub is_none : same n (bytes "SYSECT") ≡ false → unknown_code ≡ system_byte n
      unfolding system_slot slot_code
      is_none e = slot-byte-is {s = nowhere} refl (passed_over _ _ a ∙ (passed_over _ _ b ∙ passed_over _ _ e))

-- ---- the three tables

-- a place among a table's names, and whether it is one of them
module _ (t n : Bytes) (k : ℕ) (e : k ≡ place_among (names_in t) n) where
  pub is-there : k < length t / 8 → ltb (place_among (names_in t) n) (length (names_in t)) ≡ true
  is-there h = lt-ltb (place_among (names_in t) n) (length (names_in t)) (omega (arith, e, names-length t))

  pub is-not : length t / 8 ≤ k → ltb (place_among (names_in t) n) (length (names_in t)) ≡ false
  is-not h = le-ltb (place_among (names_in t) n) (length (names_in t)) (omega (arith, e, names-length t))

module _ (mine global globals n : Bytes) where
  abbrev Among : Bytes → Bool → Type 0
  Among t b = ltb (place_among (names_in t) n) (length (names_in t)) ≡ b

  byte-as : {s : Slot} {b : ℕ} → min (slot_code s) no_code ≡ b → slot_in (names_in mine) (names_in global) (names_in globals) n ≡ s → b ≡ slot_byte mine global globals n
  unfolding slot_byte
  byte-as e f = sym (ap (λ t. min (slot_code t) no_code) f ∙ e)

  pub own-byte : Among mine true → min (own_code + place_among (names_in mine) n) no_code ≡ slot_byte mine global globals n
  unfolding slot_in slot_code
  own-byte e = byte-as {s = own (place_among (names_in mine) n)} refl (chosen _ _ e)

  pub shared-byte : Among mine false → Among global true → min (shared_code + place_among (names_in globals) n) no_code ≡ slot_byte mine global globals n
  unfolding slot_in slot_code
  shared-byte e f = byte-as {s = globally (place_among (names_in globals) n)} refl (passed_over _ _ e ∙ chosen _ _ f)

  pub other_byte : Among mine false → Among global false → system_byte n ≡ slot_byte mine global globals n
  unfolding slot_in
  other_byte e f = byte-as refl (passed_over _ _ e ∙ passed_over _ _ f)

-- ---- with at most 64 own names and 32 globals the byte is the slot's code

place-within : (ws : List Bytes) (n : Bytes) → place_among ws n ≤ length ws
place-within [] n = omega arith
place-within (w ∷ ws) n = step (same w n) (place-within ws n)
  where
    step : (b : Bool) → place_among ws n ≤ length ws → elim b [ true ↦ 0 | false ↦ suc (place_among ws n) ] ≤ suc (length ws)
    step true h = omega arith
    step false h = omega arith

module _ (mine global globals n : Bytes) where
  abbrev Fits : Slot → Type 0
  Fits s = min (slot_code s) no_code ≡ slot_code s

  system-fits : Fits (system_slot n)
  unfolding system_slot slot_code
  system-fits =
      either Fits (same n (bytes "SYSLIST")) (λ a. refl)
      (λ a. either Fits (same n (bytes "SYSNDX")) (λ b. refl) (λ b. either Fits (same n (bytes "SYSECT")) (λ d. refl) (λ d. refl)))

  pub slot-fits : length (names_in mine) ≤ 64 → length (names_in globals) ≤ 32
      → slot_byte mine global globals n ≡ slot_code (slot_in (names_in mine) (names_in global) (names_in globals) n)
  unfolding slot_byte slot_in slot_code
  slot-fits h g =
      let p = place_among (names_in mine) n in
      either Fits (ltb p (length (names_in mine))) (λ e. let l : p ≤ 64 = omega (arith, place-within (names_in mine) n) in omega arith)
      (λ e. either Fits (ltb (place_among (names_in global) n) (length (names_in global))) (λ f. omega (arith, place-within (names_in globals) n)) (λ f. system-fits))

-- ---- the deck's definition

module _ (names : Names) (globals : List (Bytes × Set)) (n : Bytes) where
  pub slot-resolved : slot_in (own_names names) (firsts names.globals) (firsts globals) n ≡ resolved names globals n
  unfolding slot_in resolved
  slot-resolved = rw length-firsts

  -- the byte by tables that hold these names
  module _ (mine global shared : Bytes) (o : names_in mine ≡ own_names names) (g : names_in global ≡ firsts names.globals) (s : names_in shared ≡ firsts globals) where
    pub byte-resolved : length (own_names names) ≤ 64 → length globals ≤ 32 → slot_byte mine global shared n ≡ slot_code (resolved names globals n)
    byte-resolved h k =
        slot-fits mine global shared n (rw o h) (rw (s, length-firsts) k) ∙ ap slot_code ((λ i. slot_in (o i) (g i) (s i) n) ∙ slot-resolved)
