-- A global that is there with one kind: it stays so where others are added, and to declare it again adds nothing. Assumes nothing.
use Prim.Native.Nat.{◌≤◌}
use native.Mathlib.Omega.{arith}
use mathlib.Core.Path.{◌≡◌, refl, ap, sym, ◌∙◌, subst}
use mathlib.Core.Bool.{true, false, ◌&&◌, ◌||◌, not, and-false}
use mathlib.Core.List.{List, [], ◌∷◌, ◌++◌}
use lib.ListN.{length, length-append}
use borrow.Author.Tests.{eq-eqb}
use Rattle.text.specs.Bytes.{Bytes, same}
use Rattle.text.proofs.Same.{same-is}
use Rattle.rules.specs.Choice.{choose, any}
use Rattle.rules.specs.Fields.{Fields, statement_fields}
use Rattle.rules.specs.Statement.{Set, set_a, set_b, set_c, Statement, macro, mend, mexit, local, global, set, aif, ago, anop, actr, model, statement_of}
use Rattle.rules.specs.Form.{same_set}
use Rattle.rules.specs.Calls.{is_among}
use Rattle.rules.specs.Library.{operation_of, start_symbols, of_kind, operand_parts, globals_by, globals_on, declared_in, Names, firsts, with_globals, globals_of}
use Rattle.rules.specs.Faults.{has_other_kind}
use Rattle.rules.proofs.Choices.{by, either, chosen}
use Rattle.rules.proofs.Logic.{clash, or_left, or_right, All, all_same}
use Rattle.rules.proofs.OneKind.{Globals}
use Rattle.rules.proofs.Walked.{with_append}
use Rattle.collecting.specs.Bodies.{Agreeing, Agrees}
use Rattle.collecting.proofs.Lines.{names-back}

-- ---- a name with its kind

pub record Has (gs : Globals) (k : Set) (n : Bytes) : Type 0 where
  pub among : is_among n gs ≡ true
  pub one-kind : has_other_kind k gs n ≡ false

abbrev pub Settled : Globals → Bytes × Set → Type 0
Settled gs g = Has gs g.1 g.0

among-front : (gs more : Globals) (n : Bytes) → is_among n gs ≡ true → is_among n (gs ++ more) ≡ true
unfolding is_among
among-front [] more n h = clash h refl
among-front (g ∷ gs) more n h =
    by (same g.0 n) (λ e. ap (◌|| is_among n (gs ++ more)) e)
    (λ e. ap (◌|| is_among n (gs ++ more)) e ∙ among-front gs more n (sym (ap (◌|| is_among n gs) e) ∙ h))

among-last : (gs : Globals) (n : Bytes) (k : Set) → is_among n (gs ++ ((n, k) ∷ [])) ≡ true
unfolding is_among
among-last [] n k = ap (◌|| false) (is_same n)
  where
    is_same : (n : Bytes) → same n n ≡ true
    is_same [] = refl
    is_same (c ∷ n) = ap (◌&& same n n) (eq-eqb c c refl) ∙ is_same n
among-last (g ∷ gs) n k = by (same g.0 n) (λ e. ap (◌|| is_among n (gs ++ ((n, k) ∷ []))) e) (λ e. ap (◌|| is_among n (gs ++ ((n, k) ∷ []))) e ∙ among-last gs n k)

-- one more entry that gives the name no other kind
other-more : (k : Set) (gs : Globals) (g : Bytes × Set) (n : Bytes) → has_other_kind k gs n ≡ false → (same g.0 n && not (same_set g.1 k)) ≡ false
    → has_other_kind k (gs ++ (g ∷ [])) n ≡ false
unfolding has_other_kind any
other-more k [] g n h e = ap (◌|| false) e
other-more k (x ∷ gs) g n h e =
    let t = same x.0 n && not (same_set x.1 k) in
    ap (◌|| has_other_kind k (gs ++ (g ∷ [])) n) (or_left t _ h) ∙ other-more k gs g n (or_right t _ h) e

itself : (k : Set) → not (same_set k k) ≡ false
unfolding same_set
itself set_a = refl
itself set_b = refl
itself set_c = refl

-- ---- others are added

-- a global that is not there yet has another name
has_more : (gs : Globals) (g : Bytes × Set) (k : Set) (n : Bytes) → is_among g.0 gs ≡ false → Has gs k n → Has (gs ++ (g ∷ [])) k n
has_more gs g k n e h = record {
  among = among-front gs (g ∷ []) n h.among;
  one-kind = other-more k gs g n h.one-kind (by (same g.0 n)
      (λ t. clash (subst (λ (m : Bytes). is_among m gs ≡ true) (sym (same-is g.0 n t)) h.among) e)
      (λ t. ap (◌&& not (same_set g.1 k)) t));
}

pub has-with : (gs new : Globals) (k : Set) (n : Bytes) → Has gs k n → Has (with_globals gs new) k n
unfolding with_globals
has-with gs [] k n h = h
has-with gs (g ∷ new) k n h =
    has-with (choose (is_among g.0 gs) gs (gs ++ (g ∷ []))) new k n
    (either (λ (x : Globals). Has x k n) (is_among g.0 gs) (λ e. h) (λ e. has_more gs g k n e h))

pub has-then : (gs : Globals) (ns : List Names) (k : Set) (n : Bytes) → Has gs k n → Has (globals_of gs ns) k n
unfolding globals_of
has-then gs [] k n h = h
has-then gs (x ∷ ns) k n h = has-then (with_globals gs x.globals) ns k n (has-with gs x.globals k n h)

-- ---- names of one kind, of which none has another, are added

added-one : (gs : Globals) (k : Set) (n : Bytes) → has_other_kind k gs n ≡ false → Has (choose (is_among n gs) gs (gs ++ ((n, k) ∷ []))) k n
added-one gs k n h =
    either (λ (x : Globals). Has x k n) (is_among n gs) (λ e. record { among = e; one-kind = h })
    (λ e. record { among = among-last gs n k; one-kind = other-more k gs (n, k) n h (ap (same n n &&◌) (itself k) ∙ and-false (same n n)) })

no_other : (gs : Globals) (k : Set) (m : Bytes) (ns : List Bytes) → any (has_other_kind k gs) ns ≡ false → any (has_other_kind k (choose (is_among m gs) gs (gs ++ ((m, k) ∷ [])))) ns ≡ false
unfolding any
no_other gs k m ns h =
    either (λ (x : Globals). any (has_other_kind k x) ns ≡ false) (is_among m gs) (λ e. h) (λ e. go ns h)
  where
    go : (ns : List Bytes) → any (has_other_kind k gs) ns ≡ false → any (has_other_kind k (gs ++ ((m, k) ∷ []))) ns ≡ false
    go [] h = refl
    go (n ∷ ns) h =
        λ i. other-more k gs (m, k) n (or_left (has_other_kind k gs n) _ h) (ap (same m n &&◌) (itself k) ∙ and-false (same m n)) i
        || go ns (or_right (has_other_kind k gs n) _ h) i

kind-settled : (gs : Globals) (k : Set) (ns : List Bytes) → any (has_other_kind k gs) ns ≡ false → All (Settled (with_globals gs (of_kind k ns))) (of_kind k ns)
unfolding with_globals of_kind any
kind-settled gs k [] h = tt
kind-settled gs k (n ∷ ns) h =
    let next = choose (is_among n gs) gs (gs ++ ((n, k) ∷ [])) in (
      has-with next (of_kind k ns) k n (added-one gs k n (or_left (has_other_kind k gs n) _ h)),
      kind-settled next k ns (no_other gs k n ns (or_right (has_other_kind k gs n) _ h)),
    )

-- ---- a line's globals

-- a statement declares globals of one kind, or none
by_kind : {P : Type 0} (f : Fields) (st : Statement) → ((k : Set) → st ≡ global k → P) → (globals_by f st ≡ [] → P) → P
unfolding globals_by
by_kind f macro y n = n refl
by_kind f mend y n = n refl
by_kind f mexit y n = n refl
by_kind f (local k) y n = n refl
by_kind f (global k) y n = y k refl
by_kind f (set k) y n = n refl
by_kind f aif y n = n refl
by_kind f ago y n = n refl
by_kind f anop y n = n refl
by_kind f actr y n = n refl
by_kind f model y n = n refl

of-kind : (l : Bytes) (k : Set) → statement_of (operation_of l) ≡ global k → globals_on l ≡ of_kind k (start_symbols (operand_parts (statement_fields l)))
unfolding globals_on operation_of globals_by
of-kind l k e = ap (globals_by (statement_fields l)) e

line-settled : (p : Bytes) (gs : Globals) (before : List Bytes) (l : Bytes) → Agreeing p gs before l → All (Settled (with_globals gs (globals_on l))) (globals_on l)
unfolding globals_on operation_of
line-settled p gs before l a =
    by_kind (statement_fields l) (statement_of (operation_of l))
    (λ k e.
    let q = of-kind l k e in
    let ns = start_symbols (operand_parts (statement_fields l)) in
    subst (λ (new : Globals). All (Settled (with_globals gs new)) new) (sym q)
    (kind-settled gs k ns (sym (ap (any (has_other_kind k gs)) (ap firsts q ∙ names-back k ns)) ∙ a.one-kind k e)))
    (λ q. subst (λ (new : Globals). All (Settled (with_globals gs new)) new) (sym q) tt)

-- ---- all lines' globals

all_append : {A : Type 0} (P : A → Type 0) (s t : List A) → All P s → All P t → All P (s ++ t)
all_append P [] t h k = k
all_append P (a ∷ s) t h k = (h.0, all_append P s t h.1 k)

pub all-front : {A : Type 0} (P : A → Type 0) (s t : List A) → All P (s ++ t) → All P s × All P t
all-front P [] t h = (tt, h)
all-front P (a ∷ s) t h = let r = all-front P s t h.1 in ((h.0, r.0), r.1)

pub lines-settled : (p : Bytes) (gs : Globals) (before ls : List Bytes) → Agrees p gs before ls → All (Settled (with_globals gs (declared_in globals_on ls))) (declared_in globals_on ls)
unfolding declared_in
lines-settled p gs before [] a = tt
lines-settled p gs before (l ∷ ls) a =
    let next = with_globals gs (globals_on l) in
    let new = declared_in globals_on ls in
    subst (λ (all : Globals). All (Settled all) (globals_on l ++ new)) (sym (with_append gs (globals_on l) new))
    (all_append (Settled (with_globals next new)) (globals_on l) new
    (all_same (Settled next) (Settled (with_globals next new)) (λ g h. has-with next new g.1 g.0 h) (globals_on l) (line-settled p gs before l a.0))
    (lines-settled p next (before ++ (l ∷ [])) ls a.1))

pub settled-then : (gs new : Globals) (ns : List Names) → All (Settled gs) new → All (Settled (globals_of gs ns)) new
settled-then gs new ns h = all_same (Settled gs) (Settled (globals_of gs ns)) (λ g s. has-then gs ns g.1 g.0 s) new h

-- ---- what is settled adds nothing

pub adds-nothing : (gs new : Globals) → All (Settled gs) new → with_globals gs new ≡ gs
unfolding with_globals
adds-nothing gs [] h = refl
adds-nothing gs (g ∷ new) h = ap (λ (x : Globals). with_globals x new) (chosen gs (gs ++ (g ∷ [])) h.0.among) ∙ adds-nothing gs new h.1

none_other : (gs : Globals) (k : Set) (ns : List Bytes) → All (Settled gs) (of_kind k ns) → any (has_other_kind k gs) ns ≡ false
unfolding of_kind any
none_other gs k [] h = refl
none_other gs k (n ∷ ns) h = λ i. h.0.one-kind i || none_other gs k ns h.1 i

-- a line that agreed with the globals before it agrees with all of the library's
line-agrees : (p : Bytes) (gs all : Globals) (before : List Bytes) (l : Bytes) → length all ≤ 32 → Agreeing p gs before l → All (Settled all) (globals_on l) → Agreeing p all before l
line-agrees p gs all before l few a s = record {
  few = omega (arith, few, ap length (adds-nothing all (globals_on l) s));
  one-kind = λ k e.
      let q = of-kind l k e in
      let ns = start_symbols (operand_parts (statement_fields l)) in
      ap (any (has_other_kind k all)) (ap firsts q ∙ names-back k ns) ∙ none_other all k ns (subst (All (Settled all)) q s);
  once = a.once;
}

pub lines-agree : (p : Bytes) (gs all : Globals) (before ls : List Bytes) → length all ≤ 32 → Agrees p gs before ls → All (Settled all) (declared_in globals_on ls) → Agrees p all before ls
unfolding declared_in
lines-agree p gs all before [] few a s = tt
lines-agree p gs all before (l ∷ ls) few a s =
    let h = all-front (Settled all) (globals_on l) (declared_in globals_on ls) s in (
      line-agrees p gs all before l few a.0 h.0,
      lines-agree p (with_globals gs (globals_on l)) (with_globals all (globals_on l)) (before ++ (l ∷ [])) ls
          (omega (arith, few, ap length (adds-nothing all (globals_on l) h.0))) a.1
          (subst (λ (x : Globals). All (Settled x) (declared_in globals_on ls)) (sym (adds-nothing all (globals_on l) h.0)) h.1),
    )

-- ---- globals are never fewer

with-longer : (gs new : Globals) → length gs ≤ length (with_globals gs new)
unfolding with_globals
with-longer gs [] = omega arith
with-longer gs (g ∷ new) =
    let next = choose (is_among g.0 gs) gs (gs ++ (g ∷ [])) in
    let one : length gs ≤ length next = either (λ (x : Globals). length gs ≤ length x) (is_among g.0 gs) (λ e. omega arith) (λ e. omega (arith, length-append gs (g ∷ []))) in
    omega (arith, one, with-longer next new)

pub then-longer : (gs : Globals) (ns : List Names) → length gs ≤ length (globals_of gs ns)
unfolding globals_of
then-longer gs [] = omega arith
then-longer gs (x ∷ ns) = omega (arith, with-longer gs x.globals, then-longer (with_globals gs x.globals) ns)
