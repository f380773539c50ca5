-- Tables hold a macro's names and the library's globals still, when all the names of a line are declared; and they hold them where a macro starts. Assumes nothing.
use Prim.Native.Nat.{ℕ, ◌+◌, ◌≤◌}
use native.Mathlib.Nat.{not-suc-le-zero}
use native.Mathlib.Omega.{arith}
use mathlib.Core.Path.{◌≡◌, refl, ap, sym, ◌∙◌}
use mathlib.Core.Bool.{Bool, true, false, ◌&&◌, ◌||◌, not, and-false}
use mathlib.Core.Option.{some}
use mathlib.Core.List.{List, [], ◌∷◌, ◌++◌, map, append_assoc, append-nil, map-append}
use lib.ListN.{length, take, drop, replicate, length-append, length-replicate}
use lib.Seq.{take-add, take-take}
use Rattle.text.specs.Bytes.{Bytes, same}
use Rattle.text.proofs.Same.{same-is}
use Rattle.rules.specs.Choice.{choose, any}
use Rattle.rules.specs.Statement.{Set, set_a, set_b, set_c}
use Rattle.rules.specs.Grammar.{Kind, parameter, symbol}
use Rattle.rules.specs.Form.{same_set}
use Rattle.rules.specs.Calls.{is_among}
use Rattle.rules.specs.Library.{of_kind, declared_in, Names, names_in as names_of, firsts, seconds, parameter_names, with_globals}
use Rattle.rules.specs.ByLines.{own_names, own_kinds}
use Rattle.rules.specs.Faults.{declares_wrongly, is_declared, has_other_kind}
use Rattle.rules.proofs.Choices.{either}
use Rattle.rules.proofs.Logic.{or_left, or_right}
use Rattle.rules.proofs.Symbols.{firsts-append, seconds-append}
use Rattle.rules.proofs.OneKind.{Globals, kind_in, none-is-not, in-front, in-part, has-this, comes-in}
use Rattle.deck.proofs.Lists.{map-map, map-constant}
use Rattle.lent.specs.Splice.{splice}
use Rattle.lent.proofs.Writes.{splice-take-before, splice-drop-behind, splice-read}
use Rattle.names.specs.Names.{rows_by, names_in}
use Rattle.grammar.specs.Kinds.{number_of}
use Rattle.symbols.specs.Held.{Held}
use Rattle.symbols.specs.Declared.{add_locals, add_globals}
use Rattle.symbols.proofs.Kept.{Same, same-kinds, kinds-agree}
use Rattle.filling.specs.Added.{number}

-- ---- names of one kind

names-back : (k : Set) (ns : List Bytes) → firsts (of_kind k ns) ≡ ns
unfolding firsts of_kind
names-back k [] = refl
names-back k (n ∷ ns) = ap (n ∷◌) (names-back k ns)

one_number : (k : Set) (ns : List Bytes) → map number_of (map symbol (seconds (of_kind k ns))) ≡ replicate (length ns) (number_of (symbol k))
unfolding seconds of_kind
one_number k [] = refl
one_number k (n ∷ ns) = ap (number_of (symbol k) ∷◌) (one_number k ns)

-- ---- a line's locals

module _ (names : Names) (k : Set) (ns : List Bytes) where
  abbrev more : List (Bytes × Set)
  more = of_kind k ns

  own-names : own_names (add_locals names more) ≡ own_names names ++ ns
  unfolding own_names add_locals parameter_names
  own-names =
      ap (parameter_names names ++◌) (firsts-append names.locals more ∙ ap (firsts names.locals ++◌) (names-back k ns))
      ∙ sym (append_assoc (parameter_names names) (firsts names.locals) ns)

  own-kinds : map number_of (own_kinds (add_locals names more)) ≡ map number_of (own_kinds names) ++ replicate (length ns) (number_of (symbol k))
  unfolding own_kinds add_locals parameter_names
  own-kinds =
      let ps = map {B = Kind} (λ p. parameter) (parameter_names names) in
      let ls = map symbol (seconds names.locals) in
      let ms = map symbol (seconds more) in
      ap (map number_of) (ap (λ (s : List Set). ps ++ map symbol s) (seconds-append names.locals more)
      ∙ (ap (ps ++◌) (map-append symbol (seconds names.locals) (seconds more)) ∙ sym (append_assoc ps ls ms)))
      ∙ (map-append number_of (ps ++ ls) ms ∙ ap (map number_of (ps ++ ls) ++◌) (one_number k ns))

  own-count : length (own_names (add_locals names more)) ≡ length (own_names names) + length ns
  own-count = ap length own-names ∙ length-append (own_names names) ns

-- bytes written behind a front
front-written : (t : Bytes) (at : ℕ) (s : Bytes) (m : ℕ) → m ≡ length s → at + length s ≤ length t → take (at + m) (splice t at s) ≡ take at t ++ s
front-written t at s m e h =
    take-add at m (splice t at s)
    ∙ (λ i. splice-take-before t at s at (omega arith) i ++ (ap (λ (l : ℕ). take l (drop at (splice t at s))) e ∙ splice-read t at s h) i)

module _ {names : Names} {globals : List (Bytes × Set)} {own global shared kinds : Bytes} (h : Held names globals own global shared kinds) (k : Set) (ns : List Bytes) where
  pub locals-held : (own' kinds' : Bytes) → names_in own' ≡ names_in own ++ ns → kinds' ≡ splice kinds (length (own_names names)) (replicate (length ns) (number_of (symbol k)))
      → length (own_names names) + length ns ≤ 64 → 64 ≤ length kinds → Held (add_locals names (of_kind k ns)) globals own' global shared kinds'
  unfolding add_locals
  locals-held own' kinds' o e room long =
      let p = length (own_names names) in
      let v = replicate (length ns) (number_of (symbol k)) in
      let l : length v ≡ length ns = length-replicate (length ns) (number_of (symbol k)) in
      record {
        mine = o ∙ (ap (◌++ ns) h.mine ∙ sym (own-names names k ns));
        theirs = h.theirs;
        ours = h.ours;
        my-kinds =
            (λ i. take (own-count names k ns i) (e i))
            ∙ (front-written kinds p v (length ns) (sym l) (omega (arith, l, room, long)) ∙ (ap (◌++ v) h.my-kinds ∙ sym (own-kinds names k ns)));
        our-kinds =
            ap (λ (s : Bytes). take (length globals) (drop 64 s)) e
            ∙ (ap (take (length globals)) (splice-drop-behind kinds p v 64 (omega (arith, l, room))) ∙ h.our-kinds);
        few = omega (arith, room, own-count names k ns);
        fewer = h.fewer;
        agree = h.agree;
      }

-- ---- the kinds that a line's globals have

-- a name keeps its kind where globals are added
stays : (gs new : Globals) (n : Bytes) (k : Set) → kind_in gs n ≡ some k → kind_in (with_globals gs new) n ≡ some k
unfolding with_globals
stays gs [] n k h = h
stays gs (g ∷ new) n k h =
    stays (choose (is_among g.0 gs) gs (gs ++ (g ∷ []))) new n k
    (either (λ (x : Globals). kind_in x n ≡ some k) (is_among g.0 gs) (λ e. h) (λ e. in-front gs (g ∷ []) n k h))

itself : (k : Set) → not (same_set k k) ≡ false
unfolding same_set
itself set_a = refl
itself set_b = refl
itself set_c = refl

-- one more of the same kind gives no name another
still_one : (k : Set) (gs : Globals) (m n : Bytes) → has_other_kind k (gs ++ ((m, k) ∷ [])) n ≡ has_other_kind k gs n
unfolding has_other_kind any
still_one k [] m n = ap (λ (b : Bool). (same m n && b) || false) (itself k) ∙ ap (◌|| false) (and-false (same m n))
still_one k (g ∷ gs) m n = ap ((same g.0 n && not (same_set g.1 k)) ||◌) (still_one k gs m n)

still-none : (k : Set) (gs : Globals) (m : Bytes) (ns : List Bytes) → any (has_other_kind k (gs ++ ((m, k) ∷ []))) ns ≡ any (has_other_kind k gs) ns
unfolding any
still-none k gs m [] = refl
still-none k gs m (n ∷ ns) = λ i. still_one k gs m n i || still-none k gs m ns i

-- names of one kind, of which none has another, are added with it
come-in : (k : Set) (gs : Globals) (ns : List Bytes) → any (has_other_kind k gs) ns ≡ false → Same (of_kind k ns) (with_globals gs (of_kind k ns))
unfolding any of_kind with_globals choose
come-in k gs [] o n j h = none-is-not h
come-in k gs (m ∷ ms) o n j h = go (same m n) refl h (come-in k next ms others n j)
  where
    next : Globals
    next = choose (is_among m gs) gs (gs ++ ((m, k) ∷ []))

    others : any (has_other_kind k next) ms ≡ false
    others =
        either (λ (x : Globals). any (has_other_kind k x) ms ≡ false) (is_among m gs) (λ e. or_right (has_other_kind k gs m) _ o)
        (λ e. still-none k gs m ms ∙ or_right (has_other_kind k gs m) _ o)

    first : kind_in next m ≡ some k
    first =
        either (λ (x : Globals). kind_in x m ≡ some k) (is_among m gs) (λ e. has-this k gs m e (or_left (has_other_kind k gs m) _ o)) (λ e. comes-in k gs m e)

    go : (b : Bool) → same m n ≡ b → choose b (some k) (kind_in (of_kind k ms) n) ≡ some j
        → (kind_in (of_kind k ms) n ≡ some j → kind_in (with_globals next (of_kind k ms)) n ≡ some j)
        → kind_in (with_globals next (of_kind k ms)) n ≡ some j
    go true e h ih = stays next (of_kind k ms) n j (ap (kind_in next) (sym (same-is m n e)) ∙ (first ∙ h))
    go false e h ih = ih h

-- ---- a line's globals

module _ {names : Names} {globals : List (Bytes × Set)} {own global shared kinds : Bytes} (h : Held names globals own global shared kinds) (k : Set) (ns : List Bytes) where
  abbrev grown : List (Bytes × Set)
  grown = with_globals globals (of_kind k ns)

  pub globals-held : (global' shared' kinds' : Bytes) → names_in global' ≡ names_in global ++ ns → names_in shared' ≡ firsts (with_globals globals (of_kind k ns))
      → take (length (with_globals globals (of_kind k ns))) (drop 64 kinds') ≡ map number (with_globals globals (of_kind k ns)) → take 64 kinds' ≡ take 64 kinds
      → length (with_globals globals (of_kind k ns)) ≤ 32 → any (has_other_kind k globals) ns ≡ false → declares_wrongly (is_declared names) ns ≡ false
      → Held (add_globals names (of_kind k ns)) (with_globals globals (of_kind k ns)) own global' shared' kinds'
  unfolding add_globals own_names own_kinds parameter_names
  globals-held global' shared' kinds' g s e f room o _ =
      let gs = names.globals in
      let n = length (own_names names) in
      record {
        mine = h.mine;
        theirs = g ∙ sym (firsts-append gs (of_kind k ns) ∙ λ i. sym h.theirs i ++ names-back k ns i);
        ours = s;
        my-kinds = sym (take-take n 64 kinds' h.few) ∙ (ap (take n) f ∙ (take-take n 64 kinds h.few ∙ h.my-kinds));
        our-kinds = e;
        few = h.few;
        fewer = room;
        agree =
            kinds-agree (gs ++ of_kind k ns) grown
            (λ m j q. in-part gs (of_kind k ns) m j q (λ r. stays globals (of_kind k ns) m j (same-kinds gs globals h.agree m j r)) (come-in k globals ns o m j));
      }

-- ---- where a macro starts: its parameters, and no SET symbols

pub start-held : (prototype : Bytes) (globals : List (Bytes × Set)) (own shared kinds : Bytes) → names_in own ≡ parameter_names (names_of prototype [])
    → take (length (parameter_names (names_of prototype []))) kinds ≡ replicate (length (parameter_names (names_of prototype []))) 0
    → names_in shared ≡ firsts globals → take (length globals) (drop 64 kinds) ≡ map number globals
    → length (parameter_names (names_of prototype [])) ≤ 64 → length globals ≤ 32 → Held (names_of prototype []) globals own [] shared kinds
unfolding own_names own_kinds names_in rows_by names_of declared_in firsts seconds number_of
start-held prototype globals own shared kinds o z s e few fewer =
    let ps = parameter_names (names_of prototype []) in
    let none = append-nil ps in
    record {
      mine = o ∙ sym none;
      theirs = refl;
      ours = s;
      my-kinds =
          ap (λ (l : List Bytes). take (length l) kinds) none
          ∙ (z ∙ sym (ap (map number_of) (append-nil (map {B = Kind} (λ p. parameter) ps)) ∙ (map-map (λ p. parameter) number_of (λ p. refl) ps ∙ map-constant 0 ps)));
      our-kinds = e;
      few = omega (arith, few, ap length none);
      fewer = fewer;
      agree = λ n h. absurd (not-suc-le-zero h);
    }
