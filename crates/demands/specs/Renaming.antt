-- Two libraries that differ only by a one-for-one renaming, within each macro, of positional parameters, local SET symbols and sequence symbols (and of the name
-- parameter): a relation on their bytes, through the rules' own reader. What is read as a symbol is renamed; every other byte is the same.
use Rattle.std.specs.Prelude.{◌≡◌, Bool, true, false, List, [], ◌∷◌, ◌++◌, map, take, drop}
use Rattle.text.specs.Bytes.{Bytes, bytes, same}
use Rattle.rules.specs.Choice.{any}
use Rattle.rules.specs.Lexemes.{period, Lex, lexed, unlexed, is_sequence}
use Rattle.rules.specs.Fields.{lines_of, is_remark, Fields, fields_of}
use Rattle.rules.specs.Statement.{Statement, macro, mend, mexit, local, global, set, aif, ago, anop, actr, model, statement_of, map_lex, condition_end}
use Rattle.rules.specs.Library.{is_macro, is_mend, Names, names_in, firsts, operand_parts, keyword_names}

-- new names for the variable symbols and for the sequence symbols of one macro
pub record Renaming : Type 0 where
  pub symbols : Bytes → Bytes
  pub sequences : Bytes → Bytes

abbrev pub OneForOne : (Bytes → Bytes) → Type 0
OneForOne f = (a b : Bytes) → f a ≡ f b → a ≡ b

-- what keeps its name: keywords, the globals that the macro declares, and the system symbols
unfoldable pub kept_names : Names → List Bytes
kept_names names = firsts names.keywords ++ (firsts names.globals ++ (bytes "SYSLIST" ∷ bytes "SYSNDX" ∷ bytes "SYSECT" ∷ []))

pub record Proper (r : Renaming) (names : Names) : Type 0 where
  pub symbols-one : OneForOne r.symbols
  pub sequences-one : OneForOne r.sequences
  pub kept : (n : Bytes) → any (same n) (kept_names names) ≡ true → r.symbols n ≡ n

module _ (r : Renaming) where
  -- the same text, each variable symbol renamed; `quotes` as for the field that it stands in
  abbrev pub RenamedText : Bool → Bytes → Bytes → Type 0
  RenamedText quotes s t = lexed quotes t ≡ map (map_lex r.symbols) (lexed quotes s)

  -- a sequence symbol
  pub record RenamedSequence (s t : Bytes) : Type 0 where
    pub was : is_sequence s ≡ true
    pub now : is_sequence t ≡ true
    pub renamed : t ≡ period ∷ r.sequences (drop 1 s)

  -- a name field: a sequence symbol, or text
  pub data RenamedName (s t : Bytes) : Type 0 where
    sequence : RenamedSequence s t → RenamedName s t
    plain : is_sequence s ≡ false → is_sequence t ≡ false → RenamedText false s t → RenamedName s t

  -- AIF's condition, and the sequence symbol behind it
  pub record RenamedBranch (x y : List (Lex Bytes)) : Type 0 where
    pub condition : take (condition_end y) y ≡ map (map_lex r.symbols) (take (condition_end x) x)
    pub target : RenamedSequence (unlexed (drop (condition_end x) x)) (unlexed (drop (condition_end y) y))

  -- an operand, by the statement: what follows MACRO, ANOP, MEXIT or MEND is remarks
  abbrev pub RenamedOperand : Statement → Bytes → Bytes → Type 0
  RenamedOperand macro s t = t ≡ s
  RenamedOperand mend s t = t ≡ s
  RenamedOperand mexit s t = t ≡ s
  RenamedOperand (local k) s t = RenamedText true s t
  RenamedOperand (global k) s t = RenamedText true s t
  RenamedOperand (set k) s t = RenamedText true s t
  RenamedOperand aif s t = RenamedBranch (lexed true s) (lexed true t)
  RenamedOperand ago s t = RenamedSequence s t
  RenamedOperand anop s t = t ≡ s
  RenamedOperand actr s t = RenamedText true s t
  RenamedOperand model s t = RenamedText true s t

  -- a statement's fields; the spaces between them and the remarks field are the same bytes
  pub record RenamedFields (f g : Fields) : Type 0 where
    pub name : RenamedName f.name g.name
    pub gap : g.gap ≡ f.gap
    pub operation : RenamedText false f.operation g.operation
    pub gap₂ : g.gap₂ ≡ f.gap₂
    pub operand : RenamedOperand (statement_of f.operation) f.operand g.operand
    pub remarks : g.remarks ≡ f.remarks

  -- a body line: a remark stays as it is
  pub data RenamedLine (l m : Bytes) : Type 0 where
    remark : is_remark l ≡ true → m ≡ l → RenamedLine l m
    statement : is_remark l ≡ false → is_remark m ≡ false → RenamedFields (fields_of l) (fields_of m) → RenamedLine l m

  -- a prototype: its macro's name, and its keywords with their defaults, are the same bytes
  pub record RenamedPrototype (p q : Bytes) : Type 0 where
    pub no-remark : is_remark p ≡ false
    pub no-remark₂ : is_remark q ≡ false
    pub name : RenamedText false (fields_of p).name (fields_of q).name
    pub gap : (fields_of q).gap ≡ (fields_of p).gap
    pub operation : (fields_of q).operation ≡ (fields_of p).operation
    pub gap₂ : (fields_of q).gap₂ ≡ (fields_of p).gap₂
    pub operand : RenamedText true (fields_of p).operand (fields_of q).operand
    pub keywords : keyword_names (operand_parts (fields_of q)) ≡ keyword_names (operand_parts (fields_of p))
    pub remarks : (fields_of q).remarks ≡ (fields_of p).remarks

  -- a body, up to its MEND
  pub data RenamedBody : List Bytes → List Bytes → Type 0 where
    last : {l m : Bytes} → is_mend l ≡ true → RenamedLine l m → RenamedBody (l ∷ []) (m ∷ [])
    ◌then◌ : {l m : Bytes} {ls ms : List Bytes} → ((is_mend l ≡ false) × RenamedLine l m) → RenamedBody ls ms → RenamedBody (l ∷ ls) (m ∷ ms)

-- a library's lines: outside definitions the same bytes; each macro by a renaming of its own
pub data RenamedLines : List Bytes → List Bytes → Type 0 where
  none : RenamedLines [] []
  outside : {l : Bytes} {ls ms : List Bytes} → is_macro l ≡ false → RenamedLines ls ms → RenamedLines (l ∷ ls) (l ∷ ms)
  definition : {l p q : Bytes} {b c ls ms : List Bytes} (r : Renaming) → is_macro l ≡ true → RenamedPrototype r p q → RenamedBody r b c
      → Proper r (names_in p b) → RenamedLines ls ms → RenamedLines (l ∷ (p ∷ (b ++ ls))) (l ∷ (q ∷ (c ++ ms)))

abbrev pub Renamed : Bytes → Bytes → Type 0
Renamed library library' = RenamedLines (lines_of library) (lines_of library')
