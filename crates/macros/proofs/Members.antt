-- What acceptance says of a macro of a library: its symbols fit into tables behind all globals of the library, agree with them and bring none. Assumes nothing.
use Prim.Native.Nat.{ℕ, suc, ◌≤◌, ◌<◌}
use native.Mathlib.Omega.{arith}
use mathlib.Core.Path.{◌≡◌, refl, ap, sym, subst}
use mathlib.Core.Bool.{false}
use mathlib.Core.List.{List, [], ◌∷◌, ◌++◌, map}
use lib.ListN.{length, length-append}
use Rattle.text.specs.Bytes.{Bytes}
use Rattle.rules.specs.Choice.{any}
use Rattle.rules.specs.Limits.{parameter_limit, local_limit, global_limit}
use Rattle.rules.specs.Fields.{Fields, lines_of, is_ill_written, is_remark, no_fields, fields_of, statement_fields, is_empty}
use Rattle.rules.specs.Library.{Macro, outer, macros_from, operation_of, locals_on, globals_on, declared_in, Names, names_in, firsts, parameter_names, with_globals, globals_of}
use Rattle.rules.specs.ByLines.{own_names, Reading, reading}
use Rattle.rules.specs.Faults.{is_out_of_place}
use Rattle.rules.proofs.Choices.{by, chosen}
use Rattle.rules.proofs.Logic.{clash, All}
use Rattle.rules.proofs.OneKind.{Globals, few-globals}
use Rattle.rules.proofs.ReadLines.{written_in}
use Rattle.rules.proofs.Accepted.{Known}
use Rattle.rules.proofs.Walked.{Found, none, other, found, all_found, Proper, body_of}
use Rattle.rules.proofs.Within.{few-locals}
use Rattle.rules.proofs.Taken.{Taken, all-taken, own-parameters}
use Rattle.collecting.specs.declared.Rows.{Rows as Counts}
use Rattle.collecting.specs.Collected.{Prototype}
use Rattle.collecting.specs.Bodies.{Fits, Agrees}
use Rattle.collecting.proofs.Accepted.{lines-short, lines-agree, few-globals as few-own-globals, prototype-known}
use Rattle.bodies.proofs.Coded.{body-well-written}
use Rattle.macros.specs.Macros.{Member}
use Rattle.macros.proofs.Settled.{Settled, all-front, lines-settled, settled-then, adds-nothing, lines-agree as agree-with-all, then-longer}

-- ---- each macro, with the globals before it and those of the whole library

record Good (all : Globals) (m : Macro) : Type 0 where
  proper : Proper m
  few : length proper.globals ≤ global_limit
  settled : All (Settled all) (declared_in globals_on m.body)

abbrev names_of : List Macro → List Names
names_of ms = map (λ r. r.names) (map reading ms)

each-good : {n m : ℕ} {ts : List Bytes} {gs : Globals} {ms : List Macro} → Found n m ts gs ms → length (globals_of gs (names_of ms)) ≤ global_limit
    → All (Good (globals_of gs (names_of ms))) ms
unfolding globals_of reading names_in
each-good none h = tt
each-good (other l more e f s) h = each-good s h
each-good (found {n = n} {m = m} {ts = ts} {gs = gs} {x = x} {ms = ms} l more more₂ e f g b s) h =
    let new = declared_in globals_on x.body in
    let few : length gs ≤ global_limit = omega (arith, h, then-longer gs ((reading x).names ∷ names_of ms)) in (
      record {
        proper = record { lines = suc n; macros = suc m; titles = ts; globals = gs; more = more₂; prototype-faultless = g; body-faultless = b };
        few = few;
        settled = settled-then (with_globals gs new) new (names_of ms) (lines-settled x.prototype gs [] x.body (lines-agree b few));
      },
      each-good s h,
    )

-- ---- a member

module _ {gs : Globals} {m : Macro} (h : Member gs m) where
  pub few-all : length gs ≤ global_limit
  few-all = omega (arith, few-globals h.library h.is-accepted, ap length h.globals-are)

  is-good : Good gs m
  is-good =
      let ms = macros_from outer (lines_of h.library) in
      let a = each-good (all_found h.library h.is-accepted) (few-globals h.library h.is-accepted) in
      let b : All (Good gs) (h.before ++ (m ∷ h.behind)) = subst (λ (l : List Macro). All (Good gs) l) h.macros-are (subst (λ (g : Globals). All (Good g) ms) (sym h.globals-are) a) in
      (all-front (Good gs) h.before (m ∷ h.behind) b).1.0

  mapped : (f : Macro → Reading) (s t : List Macro) (P : Reading → Type 0) → All P (map f (s ++ t)) → All P (map f t)
  mapped f [] t P a = a
  mapped f (x ∷ s) t P a = mapped f s t P a.1

  pub is-taken : Taken (reading m)
  is-taken = (mapped reading h.before (m ∷ h.behind) Taken (subst (λ (l : List Macro). All Taken (map reading l)) h.macros-are (all-taken h.library h.is-accepted))).0

  pub known : Known (reading m)
  unfolding reading
  known = record { prototype = m.prototype; names-are = refl; is-sound = body_of is-good.proper.body-faultless }

  -- ---- its prototype

  pub prototype-fits : (own kinds : Bytes) → 1024 ≤ length own → 192 ≤ length kinds → Prototype m.prototype own kinds
  prototype-fits own kinds a b = prototype-known is-good.proper.prototype-faultless own kinds a b

  pub prototype-short : length m.prototype ≤ 71
  prototype-short = (written_in m.prototype is-good.proper.prototype-faultless.written).0

  pub no-remark : is_remark m.prototype ≡ false
  unfolding is_out_of_place operation_of statement_fields no_fields is_empty
  no-remark =
      let p = m.prototype in
      by (is_remark p) (λ e. clash (ap (λ (f : Fields). is_empty f.operation) (chosen no_fields (fields_of p) e)) is-good.proper.prototype-faultless.placed) (λ e. e)

  pub few-parameters : length (own_names (names_in m.prototype [])) ≤ parameter_limit
  unfolding own_names parameter_names names_in declared_in firsts reading
  few-parameters = omega (arith, own-parameters is-taken, length-append (parameter_names (names_in m.prototype [])) [])

  -- ---- its body

  pub body-fits : (rows : Counts) → rows.own ≤ parameter_limit → rows.global ≡ 0 → rows.shared ≡ length gs → Fits m.body rows
  unfolding names_in
  body-fits rows o g s =
      let b = is-good.proper.body-faultless in
      let k : length (declared_in locals_on m.body) ≤ local_limit = few-locals m.prototype m.body (body_of b) in
      let f = few-own-globals b is-good.few in
      record { short = lines-short b; few-own = omega (arith, o, k); few-global = omega (arith, g, f); few-shared = omega (arith, s, few-all, f) }

  pub few-declared : length (declared_in globals_on m.body) ≤ global_limit
  few-declared = few-own-globals is-good.proper.body-faultless is-good.few

  pub body-agrees : Agrees m.prototype gs [] m.body
  body-agrees =
      agree-with-all m.prototype is-good.proper.globals gs [] m.body (omega (arith, few-all)) (lines-agree is-good.proper.body-faultless is-good.few) is-good.settled

  pub brings-none : with_globals gs (declared_in globals_on m.body) ≡ gs
  brings-none = adds-nothing gs (declared_in globals_on m.body) is-good.settled

  pub body-written : any is_ill_written m.body ≡ false
  unfolding reading
  body-written = body-well-written known.is-sound

  pub few-lines : length m.body < 65536
  unfolding reading
  few-lines = omega (arith, is-taken.short)
