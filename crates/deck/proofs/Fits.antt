-- The deck of an accepted library fits its coding.
use Prim.Native.Nat.{ℕ, suc, ◌+◌, ◌≤◌, ◌<◌}
use native.Mathlib.Omega.{arith}
use mathlib.Core.Path.{◌≡◌, refl, ap, sym, ◌∙◌, subst}
use mathlib.Core.Bool.{Bool, true, false, false≢true, true≢false, ◌&&◌, ◌||◌}
use mathlib.Core.List.{List, [], ◌∷◌, map}
use lib.Dec.{eqb, leb, ltb}
use lib.ListN.{length, get_or, length-map}
use borrow.Author.Tests.{eqb-true, leb-true, ltb-true, ltb-false, le-ltb}
use Rattle.text.specs.Bytes.{Bytes, bytes, same}
use Rattle.text.specs.Characters.{in_set}
use Rattle.text.specs.Words.{place_among}
use Rattle.rules.specs.Choice.{choose, any, every}
use Rattle.rules.specs.Limits.{line_limit, parameter_limit, local_limit, global_limit}
use Rattle.rules.specs.Lexemes.{ampersand, apostrophe, Lex, byte as char, mark, ref, lone, unlexed, refs_in, is_long}
use Rattle.rules.specs.Statement.{Set, Line, Does, passes, ends, exits, text, models, sets, branches_if, branches, counts, map_lex, map_does, map_line, read}
use Rattle.rules.specs.Grammar.{syslist, sysndx, sysect, unknown}
use Rattle.rules.specs.Fields.{lines_of}
use Rattle.rules.specs.Machine.{Level}
use Rattle.rules.specs.Library.{outer, macros_from, Names, firsts, is_named, line_named}
use Rattle.rules.specs.ByLines.{Reading, reading, no_reading, own_names}
use Rattle.rules.specs.Faults.{system_kind, kind_named, is_unknown_kind, has_unknown, accepted, verdict}
use Rattle.rules.proofs.Choices.{either, passed_over, and_left, and_right}
use Rattle.rules.proofs.Logic.{All, or_left, or_right}
use Rattle.rules.proofs.Symbols.{cell-kind, other-cell, length-seconds}
use Rattle.rules.proofs.NoLone.{NoLone}
use Rattle.rules.proofs.ReadLines.{InSet, every-behind, lexemes-short, Shape}
use Rattle.rules.proofs.BodyLines.{KnownIn, line-written, line-says, line_clean, line_known}
use Rattle.rules.proofs.Accepted.{readings}
use Rattle.rules.proofs.OneKind.{globals_in, global-in-range, few-globals}
use Rattle.rules.proofs.Within.{few-macros}
use Rattle.rules.proofs.Keywords.{keyword_bytes, GoodKeyword}
use Rattle.rules.proofs.Taken.{Taken, taken_at, is_known, title-written, own-names, own-locals, positionals-and-keywords, own-keywords}
use Rattle.deck.specs.Slots.{Slot, list, index, section, nowhere, system_slot, resolved, resolved_line, deck_macro, deck_in, resolved_library}
use Rattle.deck.proofs.Lists.{all-mapped}
use Rattle.deck.proofs.Coding.{IsByte, IsCount, FitsSlot, FitsLex, FitsField, FitsString, FitsDoing, FitsLine, FitsMacro, FitsDeck}

-- ---- bytes

either-so : {P : Type 0} (a b : Bool) → (a || b) ≡ true → (a ≡ true → P) → (b ≡ true → P) → P
either-so true b h f g = f refl
either-so false b h f g = g h

-- a byte of 01's set is below the attribute mark's
pub in-set-small : (c : ℕ) → in_set c ≡ true → c < 127
unfolding in_set
in-set-small c h =
    either-so (leb 65 c && leb c 90) _ h (λ e. omega (arith, leb-true c 90 (and_right (leb 65 c) (leb c 90) e)))
    λ h. either-so (leb 48 c && leb c 57) _ h (λ e. omega (arith, leb-true c 57 (and_right (leb 48 c) (leb c 57) e)))
    λ h. one 32 h (omega arith) λ h. one 36 h (omega arith) λ h. one 35 h (omega arith) λ h. one 64 h (omega arith) λ h. one 95 h (omega arith)
    λ h. one 43 h (omega arith) λ h. one 45 h (omega arith) λ h. one 42 h (omega arith) λ h. one 61 h (omega arith) λ h. one 44 h (omega arith)
    λ h. one 46 h (omega arith) λ h. one 40 h (omega arith) λ h. one 41 h (omega arith) λ h. one 47 h (omega arith) λ h. one 39 h (omega arith)
    λ h. omega (arith, eqb-true c 38 h)
  where
    one : (d : ℕ) {b : Bool} → (eqb c d || b) ≡ true → d < 127 → (b ≡ true → c < 127) → c < 127
    one d {b} h k f = either-so (eqb c d) b h (λ e. omega (arith, eqb-true c d e)) f

string_bytes : (s : Bytes) → InSet s → All IsByte s
unfolding every
string_bytes [] h = tt
string_bytes (c ∷ s) h = (omega (arith, in-set-small c (and_left (in_set c) _ h)), string_bytes s (and_right (in_set c) _ h))

string-fits : (s : Bytes) → length s ≤ line_limit → InSet s → FitsString s
string-fits s k h = (omega arith, string_bytes s h)

-- ---- slots

system-fits : (n : Bytes) → is_unknown_kind (system_kind n) ≡ false → FitsSlot (system_slot n)
unfolding system_kind system_slot is_unknown_kind choose
system-fits n h = go (same n (bytes "SYSLIST")) (same n (bytes "SYSNDX")) (same n (bytes "SYSECT")) h
  where
    go : (a b c : Bool) → is_unknown_kind (choose a syslist (choose b sysndx (choose c sysect unknown))) ≡ false → FitsSlot (choose a list (choose b index (choose c section nowhere)))
    go true b c h = tt
    go false true c h = tt
    go false false true h = tt
    go false false false h = absurd (true≢false h)

module _ (names : Names) (globals : List (Bytes × Set)) (few-own : length (own_names names) ≤ parameter_limit + local_limit) (few : length globals ≤ global_limit)
    (in-range : (n : Bytes) → place_among (firsts names.globals) n < length names.globals → place_among (firsts globals) n < length globals)
  where
    -- the kind of a name that is none of the macro's does not depend on a level
    no_level : Level
    no_level = record { macro = 0; line = 0; counter = 0; number = 0; sect = []; list = []; own = [] }

    system-name : (n : Bytes) → length (own_names names) ≤ place_among (own_names names) n → length names.globals ≤ place_among (firsts names.globals) n
        → kind_named names n ≡ system_kind n
    system-name n h k = sym (cell-kind names globals no_level [] n) ∙ (other-cell names globals no_level [] n h ∙ passed_over _ _ (le-ltb _ _ k))

    slot-fits : (n : Bytes) → is_unknown_kind (kind_named names n) ≡ false → FitsSlot (resolved names globals n)
    unfolding resolved
    slot-fits n h =
        let p = place_among (own_names names) n in
        let g = place_among (firsts names.globals) n in
        either FitsSlot (ltb p (length (own_names names))) (λ e. omega (arith, few-own, ltb-true p (length (own_names names)) e))
        (λ e. either FitsSlot (ltb g (length names.globals)) (λ f. omega (arith, few, in-range n (ltb-true g (length names.globals) f)))
        (λ f. system-fits n
        (ap is_unknown_kind (sym (system-name n (ltb-false p (length (own_names names)) e) (ltb-false g (length names.globals) f))) ∙ h)))

    lexemes-fit : (x : List (Lex Bytes)) → InSet (unlexed x) → NoLone x → KnownIn names x → All FitsLex (map (map_lex (resolved names globals)) x)
    unfolding map_lex unlexed every has_unknown refs_in any
    lexemes-fit [] h c k = tt
    lexemes-fit (char b ∷ x) h c k = (in-set-small b (and_left (in_set b) _ h), lexemes-fit x (and_right (in_set b) _ h) c k)
    lexemes-fit (mark ∷ x) h c k = (tt, lexemes-fit x (and_right (in_set apostrophe) _ h) c k)
    lexemes-fit (ref n ∷ x) h c k =
        let u = is_long n || is_unknown_kind (kind_named names n) in (
          slot-fits n (or_right (is_long n) _ (or_left u _ k)),
          lexemes-fit x (every-behind in_set n (unlexed x) (and_right (in_set ampersand) _ h)) c (or_right u _ k),
        )
    lexemes-fit (lone ∷ x) h c k = absurd (false≢true c)

    field_fits : (x : List (Lex Bytes)) → length (unlexed x) ≤ line_limit → InSet (unlexed x) → NoLone x → KnownIn names x → FitsField (map (map_lex (resolved names globals)) x)
    field_fits x w h c k = (omega (arith, w, lexemes-short x, length-map x (map_lex (resolved names globals))), lexemes-fit x h c k)

-- ---- lines

target-bound : (t : Bytes) (ls : List Bytes) → line_named t ls ≤ length ls
unfolding line_named
target-bound t [] = omega arith
target-bound t (l ∷ ls) = either (λ (k : ℕ). k ≤ suc (length ls)) (is_named t l) (λ e. omega arith) (λ e. omega (arith, target-bound t ls))

module _ (l : Bytes) (r : Line Bytes Bytes) (f : Bytes → Slot) (g : Bytes → ℕ) (small : (t : Bytes) → IsCount (g t)) (written : FitsString l) where
  still-empty : {x : List (Lex Bytes)} → x ≡ [] → map (map_lex f) x ≡ []
  still-empty e = ap (map (map_lex f)) e

  doing-fits : (d : Does Bytes) → Shape l r d → FitsDoing (map_line f g r) (map_does g d)
  unfolding map_line map_does
  doing-fits passes s = (still-empty s.0, (still-empty s.1.0, still-empty s.1.1))
  doing-fits ends s = (still-empty s.0, (still-empty s.1.0, still-empty s.1.1))
  doing-fits exits s = (still-empty s.0, (still-empty s.1.0, still-empty s.1.1))
  doing-fits (text t) s = (subst FitsString (sym s.0) written, (still-empty s.1.0, (still-empty s.1.1.0, still-empty s.1.1.1)))
  doing-fits models s = tt
  doing-fits (sets k) s = still-empty s
  doing-fits (branches_if t) s = (small t, (still-empty s.0, still-empty s.1))
  doing-fits (branches t) s = (small t, (still-empty s.0, (still-empty s.1.0, still-empty s.1.1)))
  doing-fits counts s = (still-empty s.0, still-empty s.1)

module _ {r : Reading} (a : Taken r) (globals : List (Bytes × Set)) (few : length globals ≤ global_limit)
    (in-range : (n : Bytes) → place_among (firsts r.names.globals) n < length r.names.globals → place_among (firsts globals) n < length globals)
  where
    line-fits : (i : ℕ) → i < length r.body → FitsLine (resolved_line r globals (get_or r.body i []))
    unfolding resolved_line map_line
    line-fits i h =
        let l = get_or r.body i [] in
        let x = read l in
        let g : Bytes → ℕ = λ t. line_named t r.body in
        let w = line-written (is_known a) i h in
        let s = line-says (is_known a) i h in
        let c = line_clean (is_known a) i h in
        let k = line_known (is_known a) i h in
        let fits = field_fits r.names globals (own-names a) few in-range in (
          fits x.name (omega (arith, s.total, w.0)) s.name-in c.0 k.0,
          (
            fits x.operation (omega (arith, s.total, w.0)) s.operation-in c.1.0 k.1.0,
            (
              fits x.operand (omega (arith, s.total, w.0)) s.operand_in c.1.1 k.1.1,
              doing-fits l x (resolved r.names globals) g (λ t. omega (arith, target-bound t r.body, a.short)) (string-fits l w.0 w.1) x.does s.shape,
            ),
          ),
        )

    -- ---- macros

    keywords-fit : (ks : List (Bytes × Bytes)) → keyword_bytes ks ≤ line_limit → All GoodKeyword ks → All (λ k. FitsString k.0 × FitsString k.1) ks
    keywords-fit [] w h = tt
    keywords-fit (k ∷ ks) w h =
        ((string-fits k.0 (omega arith) h.0.0, string-fits k.1 (omega arith) h.0.1), keywords-fit ks (omega arith) h.1)

    macro-fits : FitsMacro (deck_macro globals r)
    unfolding deck_macro
    macro-fits =
        let t = title-written a in
        let n = positionals-and-keywords a in
        let k = own-keywords a in (
          string-fits r.title t.0 t.1,
          (
            omega (arith, n),
            (
              (omega (arith, n), keywords-fit r.names.keywords k.0 k.1),
              (
                omega (arith, own-locals a, length-seconds r.names.locals),
                (omega (arith, a.short, length-map r.body (resolved_line r globals)), all-mapped FitsLine (resolved_line r globals) r.body [] line-fits),
              ),
            ),
          ),
        )

pub fits-deck : (library : Bytes) → verdict library ≡ accepted → FitsDeck (resolved_library library)
unfolding resolved_library deck_in
fits-deck library e =
    let rs = readings library in
    let globals = globals_in library in (
      omega (arith, few-globals library e, length-seconds globals),
      (
        omega (arith, few-macros library e, length-map rs (deck_macro globals), length-map (macros_from outer (lines_of library)) reading),
        all-mapped FitsMacro (deck_macro globals) rs no_reading λ k hk. macro-fits (taken_at library e k hk) globals (few-globals library e) (global-in-range library e k),
      ),
    )
