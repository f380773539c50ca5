-- The definitions, opened for computing: the deck of a library, which slices are in good form, and what expanding through a deck answers.
use Prim.Native.Nat.{ℕ}
use mathlib.Core.Bool.{Bool, true, false}
use mathlib.Core.Option.{none, some}
use Rattle.text.specs.Bytes.{Bytes}
use Rattle.text.specs.Characters as text-Characters
use Rattle.text.specs.Words as text-Words
use Rattle.rules.specs.ByLines as rules-ByLines
use Rattle.rules.specs.Calls as rules-Calls
use Rattle.rules.specs.Choice as rules-Choice
use Rattle.rules.specs.Decide as rules-Decide
use Rattle.rules.specs.Evaluate as rules-Evaluate
use Rattle.rules.specs.Faults as rules-Faults
use Rattle.rules.specs.Fields as rules-Fields
use Rattle.rules.specs.Form as rules-Form
use Rattle.rules.specs.Grammar as rules-Grammar
use Rattle.rules.specs.Lexemes as rules-Lexemes
use Rattle.rules.specs.Library as rules-Library
use Rattle.rules.specs.Machine as rules-Machine
use Rattle.rules.specs.Meaning as rules-Meaning
use Rattle.rules.specs.Places as rules-Places
use Rattle.rules.specs.Statement as rules-Statement
use Rattle.rules.specs.Values as rules-Values
use Rattle.deck.specs.AsRead as deck-AsRead
use Rattle.deck.specs.ByDeck as deck-ByDeck
use Rattle.deck.specs.Coders as deck-Coders
use Rattle.deck.specs.Coding as deck-Coding
use Rattle.deck.specs.Good as deck-Good
use Rattle.deck.specs.Slots as deck-Slots
use Rattle.deck.specs.Translation as deck-Translation
use Rattle.rules.specs.Machine.{Answer}
use Rattle.deck.specs.Good.{good_deck}
use Rattle.deck.specs.ByDeck.{deck_expansion}
use Rattle.deck.specs.Translation.{deck_of}

unfoldable pub deck_bytes : Bytes → Bytes
unfolding text-Characters.letter text-Characters.digit text-Characters.letter_or_digit text-Characters.in_set text-Characters.characters text-Characters.letters text-Characters.digits text-Words.words text-Words.word_number rules-ByLines.own_names rules-ByLines.own_kinds rules-ByLines.system_named rules-ByLines.cell_named rules-ByLines.header_of rules-ByLines.reading rules-ByLines.no_reading rules-ByLines.line_in rules-ByLines.machine_of rules-ByLines.machine_of_lines rules-ByLines.by_lines rules-Calls.pair_up rules-Calls.parts rules-Calls.divided rules-Calls.equals_at rules-Calls.has_equals rules-Calls.keyword_of rules-Calls.operand_of rules-Calls.is_among rules-Calls.add_operand rules-Calls.add_keyword rules-Calls.gathered rules-Calls.operands_of rules-Calls.map_keywords rules-Calls.map_operands rules-Calls.put_at rules-Calls.laid_out rules-Calls.trimmed rules-Choice.choose rules-Choice.passed rules-Choice.run rules-Choice.every rules-Choice.any rules-Choice.count rules-Choice.on_first rules-Choice.while rules-Decide.when_got rules-Decide.renewed rules-Decide.unless rules-Decide.value_of rules-Decide.assigned rules-Decide.replaced rules-Decide.operand_value rules-Decide.modelled rules-Decide.decide_by rules-Decide.decide rules-Evaluate.own_cell rules-Evaluate.shared_cell rules-Evaluate.system_cell rules-Evaluate.number_of rules-Evaluate.truth_of rules-Evaluate.shown rules-Evaluate.and_then rules-Evaluate.of_parameter rules-Evaluate.of_list rules-Evaluate.text_of rules-Evaluate.as_number rules-Evaluate.count_bytes rules-Evaluate.count_entries rules-Evaluate.chars rules-Evaluate.chars_if rules-Evaluate.joined_chars rules-Evaluate.measured_chars rules-Evaluate.substring_chars rules-Evaluate.type_chars rules-Evaluate.certain rules-Evaluate.values rules-Faults.no_lines rules-Faults.at_statement rules-Faults.ends_declarations rules-Faults.is_misplaced rules-Faults.is_out_of_place rules-Faults.has_long_symbol rules-Faults.is_long_sequence rules-Faults.declares_wrongly rules-Faults.is_macro_name rules-Faults.before_equals rules-Faults.has_bad_prototype_name rules-Faults.system_kind rules-Faults.set_names rules-Faults.kind_named rules-Faults.is_unknown_kind rules-Faults.has_unknown rules-Faults.is_declared rules-Faults.has_other_kind rules-Faults.is_named_up_to_mend rules-Faults.is_bad_target rules-Faults.target_behind rules-Faults.has_bad_body_name rules-Faults.is_used_twice rules-Faults.has_bad_name rules-Faults.is_default rules-Faults.is_good_part rules-Faults.are_good_parts rules-Faults.is_good_prototype rules-Faults.is_named_or_empty rules-Faults.is_model_name rules-Faults.is_declaration rules-Faults.are_fields_good rules-Faults.kinds_of rules-Faults.is_ill_formed rules-Faults.is_past rules-Faults.is_over_limit rules-Faults.fault_of rules-Faults.place_after rules-Faults.titles_after rules-Faults.globals_after rules-Faults.macros_after rules-Faults.around_after rules-Faults.at_end rules-Faults.verdict_from rules-Faults.verdict rules-Fields.lines_of rules-Fields.is_ill_written rules-Fields.starts_with rules-Fields.is_copied_remark rules-Fields.is_dropped_remark rules-Fields.is_remark rules-Fields.is_space rules-Fields.is_no_space rules-Fields.ends_operand rules-Fields.operand_end rules-Fields.holds_spaces rules-Fields.fields_of rules-Fields.no_fields rules-Fields.statement_fields rules-Fields.is_empty rules-Form.form rules-Form.is_got rules-Form.same_set rules-Form.is_symbol_of rules-Form.is_named_by rules-Form.is_operand_of rules-Form.is_formed_by rules-Form.is_formed rules-Form.any_nesting rules-Grammar.in_text rules-Grammar.as_term rules-Grammar.after_k rules-Grammar.after_n rules-Grammar.after_t rules-Grammar.plain rules-Grammar.rest rules-Grammar.starts_mark rules-Grammar.is_attribute rules-Grammar.past_spaces rules-Grammar.word_at rules-Grammar.is_word rules-Grammar.relation_at rules-Grammar.then rules-Grammar.broken rules-Grammar.given rules-Grammar.closed rules-Grammar.whole rules-Grammar.goes_on rules-Grammar.turn rules-Grammar.chain rules-Grammar.subscripts rules-Grammar.reference rules-Grammar.referred rules-Grammar.decimal_number rules-Grammar.term rules-Grammar.product rules-Grammar.sum rules-Grammar.piece rules-Grammar.add_piece rules-Grammar.goes_on_text rules-Grammar.text rules-Grammar.is_doubled rules-Grammar.add_quoted rules-Grammar.goes_on_quoted rules-Grammar.quoted_text rules-Grammar.substringed rules-Grammar.string rules-Grammar.characters rules-Grammar.deeper rules-Grammar.arithmetic rules-Grammar.text_within rules-Grammar.string_within rules-Grammar.compared_strings rules-Grammar.is_digit_alone rules-Grammar.constant_at rules-Grammar.compared_numbers rules-Grammar.is_flag rules-Grammar.element rules-Grammar.spaced rules-Grammar.negation rules-Grammar.conjunction rules-Grammar.disjunction rules-Grammar.deeper_condition rules-Grammar.condition rules-Lexemes.byte_of rules-Lexemes.field_start rules-Lexemes.follows rules-Lexemes.is_mark rules-Lexemes.after rules-Lexemes.marked rules-Lexemes.symbols rules-Lexemes.lexed rules-Lexemes.unlexed rules-Lexemes.refs_in rules-Lexemes.is_plain rules-Lexemes.is_long rules-Lexemes.is_name rules-Lexemes.sequence_start rules-Lexemes.is_sequence rules-Lexemes.outside rules-Lexemes.enters rules-Lexemes.is_bare rules-Library.operation_of rules-Library.is_macro rules-Library.is_mend rules-Library.macros_from rules-Library.start_symbol rules-Library.is_one_symbol rules-Library.start_symbols rules-Library.positional_names rules-Library.with_default rules-Library.keyword_names rules-Library.of_kind rules-Library.operand_parts rules-Library.locals_by rules-Library.globals_by rules-Library.locals_on rules-Library.globals_on rules-Library.declared_in rules-Library.names_in rules-Library.firsts rules-Library.seconds rules-Library.parameter_names rules-Library.with_globals rules-Library.globals_of rules-Library.is_named rules-Library.line_named rules-Machine.start_of rules-Machine.positional_values rules-Machine.keyword_value rules-Machine.keyword_values rules-Machine.own_values rules-Machine.knows_keywords rules-Machine.body_line rules-Machine.refused_at rules-Machine.refuses rules-Machine.with_levels rules-Machine.is_section rules-Machine.sect_after rules-Machine.put_out rules-Machine.puts rules-Machine.entered rules-Machine.enters rules-Machine.calls rules-Machine.is_title rules-Machine.is_language_word rules-Machine.call_name rules-Machine.written_operands rules-Machine.uses rules-Machine.states rules-Machine.advanced rules-Machine.jumped rules-Machine.renewed_to rules-Machine.keeping rules-Machine.with_shared rules-Machine.acts rules-Machine.reaching rules-Machine.stepped rules-Machine.opened rules-Machine.output_of rules-Machine.open_move rules-Machine.act_at rules-Machine.move rules-Machine.runs rules-Machine.begun rules-Machine.longest_in rules-Machine.enough rules-Machine.expands rules-Machine.at_once rules-Machine.expansion rules-Machine.output_after rules-Machine.workspace_after rules-Machine.outcome rules-Meaning.meaning rules-Places.numbers_at rules-Places.is_of01 rules-Statement.statements rules-Statement.statement_of rules-Statement.map_lex rules-Statement.map_does rules-Statement.map_line rules-Statement.pairs_first rules-Statement.starts_open rules-Statement.condition_end rules-Statement.target_in rules-Statement.is_copied rules-Statement.doing rules-Statement.model_of rules-Statement.says rules-Statement.read rules-Values.within rules-Values.operate rules-Values.decimal rules-Values.magnitude rules-Values.shown_number rules-Values.shown_truth rules-Values.four_digits rules-Values.spelt rules-Values.number_in rules-Values.type_of rules-Values.substring rules-Values.byte_order rules-Values.first_differing rules-Values.string_order rules-Values.number_order rules-Values.holds rules-Values.divided_in rules-Values.entries_of rules-Values.number_of_entries rules-Values.entry rules-Values.listed deck-AsRead.last_byte deck-AsRead.follows_in deck-AsRead.marks_here deck-AsRead.after_lexeme deck-AsRead.is_read_at deck-AsRead.is_read deck-AsRead.is_field deck-AsRead.is_word_field deck-AsRead.is_end deck-AsRead.is_operand deck-AsRead.starts_plainly deck-AsRead.is_model_operation deck-AsRead.is_read_by deck-AsRead.is_read_line deck-AsRead.is_bare_comma deck-AsRead.is_read_default deck-ByDeck.deck_answer deck-ByDeck.deck_expansion deck-ByDeck.by_deck deck-Coders.slot_code deck-Coders.lex_code deck-Coders.lex_of deck-Coders.lexeme deck-Coders.field deck-Coders.string deck-Coders.set_code deck-Coders.set_of deck-Coders.kind deck-Coders.flag_code deck-Coders.flag_of deck-Coders.flag deck-Coders.put_line_by deck-Coders.sets_line deck-Coders.get_sets deck-Coders.get_models deck-Coders.get_text deck-Coders.get_branch_if deck-Coders.get_branch deck-Coders.get_counts deck-Coders.get_line_by deck-Coders.line deck-Coders.parts_of deck-Coders.macro_of deck-Coders.macro deck-Coders.deck_from deck-Coders.contents deck-Coders.encoded deck-Coders.whole_deck deck-Coders.versioned deck-Coders.counted deck-Coders.decoded deck-Coding.after deck-Coding.get_byte deck-Coding.byte deck-Coding.two deck-Coding.four deck-Coding.pair deck-Coding.made deck-Coding.via deck-Coding.put_all deck-Coding.get_all deck-Coding.list_of deck-Good.are_distinct deck-Good.are_distinct_keywords deck-Good.is_keyword deck-Good.is_lexeme deck-Good.are_lexemes deck-Good.is_statement_text deck-Good.is_text deck-Good.is_target deck-Good.is_in_order deck-Good.is_line deck-Good.does_end deck-Good.ends_once deck-Good.does_count deck-Good.may_precede deck-Good.actr_end deck-Good.counts_once deck-Good.is_macro deck-Good.total_lines deck-Good.is_sound deck-Good.is_read_macro deck-Good.is_good deck-Good.if_good deck-Good.good_deck deck-Slots.system_slot deck-Slots.resolved deck-Slots.resolved_line deck-Slots.deck_macro deck-Slots.deck_in deck-Slots.resolved_library deck-Slots.parameters deck-Slots.own_kinds_of deck-Slots.slot_kind deck-Slots.held deck-Slots.no_macro deck-Slots.no_line deck-Slots.deck_header deck-Slots.machine_of_deck deck-Translation.deck_of deck-Translation.translated_by deck-Translation.translated deck-Translation.buffer_after
deck_bytes library = deck_of library

unfoldable pub is_in_good_form : Bytes → Bool
unfolding text-Characters.letter text-Characters.digit text-Characters.letter_or_digit text-Characters.in_set text-Characters.characters text-Characters.letters text-Characters.digits text-Words.words text-Words.word_number rules-ByLines.own_names rules-ByLines.own_kinds rules-ByLines.system_named rules-ByLines.cell_named rules-ByLines.header_of rules-ByLines.reading rules-ByLines.no_reading rules-ByLines.line_in rules-ByLines.machine_of rules-ByLines.machine_of_lines rules-ByLines.by_lines rules-Calls.pair_up rules-Calls.parts rules-Calls.divided rules-Calls.equals_at rules-Calls.has_equals rules-Calls.keyword_of rules-Calls.operand_of rules-Calls.is_among rules-Calls.add_operand rules-Calls.add_keyword rules-Calls.gathered rules-Calls.operands_of rules-Calls.map_keywords rules-Calls.map_operands rules-Calls.put_at rules-Calls.laid_out rules-Calls.trimmed rules-Choice.choose rules-Choice.passed rules-Choice.run rules-Choice.every rules-Choice.any rules-Choice.count rules-Choice.on_first rules-Choice.while rules-Decide.when_got rules-Decide.renewed rules-Decide.unless rules-Decide.value_of rules-Decide.assigned rules-Decide.replaced rules-Decide.operand_value rules-Decide.modelled rules-Decide.decide_by rules-Decide.decide rules-Evaluate.own_cell rules-Evaluate.shared_cell rules-Evaluate.system_cell rules-Evaluate.number_of rules-Evaluate.truth_of rules-Evaluate.shown rules-Evaluate.and_then rules-Evaluate.of_parameter rules-Evaluate.of_list rules-Evaluate.text_of rules-Evaluate.as_number rules-Evaluate.count_bytes rules-Evaluate.count_entries rules-Evaluate.chars rules-Evaluate.chars_if rules-Evaluate.joined_chars rules-Evaluate.measured_chars rules-Evaluate.substring_chars rules-Evaluate.type_chars rules-Evaluate.certain rules-Evaluate.values rules-Faults.no_lines rules-Faults.at_statement rules-Faults.ends_declarations rules-Faults.is_misplaced rules-Faults.is_out_of_place rules-Faults.has_long_symbol rules-Faults.is_long_sequence rules-Faults.declares_wrongly rules-Faults.is_macro_name rules-Faults.before_equals rules-Faults.has_bad_prototype_name rules-Faults.system_kind rules-Faults.set_names rules-Faults.kind_named rules-Faults.is_unknown_kind rules-Faults.has_unknown rules-Faults.is_declared rules-Faults.has_other_kind rules-Faults.is_named_up_to_mend rules-Faults.is_bad_target rules-Faults.target_behind rules-Faults.has_bad_body_name rules-Faults.is_used_twice rules-Faults.has_bad_name rules-Faults.is_default rules-Faults.is_good_part rules-Faults.are_good_parts rules-Faults.is_good_prototype rules-Faults.is_named_or_empty rules-Faults.is_model_name rules-Faults.is_declaration rules-Faults.are_fields_good rules-Faults.kinds_of rules-Faults.is_ill_formed rules-Faults.is_past rules-Faults.is_over_limit rules-Faults.fault_of rules-Faults.place_after rules-Faults.titles_after rules-Faults.globals_after rules-Faults.macros_after rules-Faults.around_after rules-Faults.at_end rules-Faults.verdict_from rules-Faults.verdict rules-Fields.lines_of rules-Fields.is_ill_written rules-Fields.starts_with rules-Fields.is_copied_remark rules-Fields.is_dropped_remark rules-Fields.is_remark rules-Fields.is_space rules-Fields.is_no_space rules-Fields.ends_operand rules-Fields.operand_end rules-Fields.holds_spaces rules-Fields.fields_of rules-Fields.no_fields rules-Fields.statement_fields rules-Fields.is_empty rules-Form.form rules-Form.is_got rules-Form.same_set rules-Form.is_symbol_of rules-Form.is_named_by rules-Form.is_operand_of rules-Form.is_formed_by rules-Form.is_formed rules-Form.any_nesting rules-Grammar.in_text rules-Grammar.as_term rules-Grammar.after_k rules-Grammar.after_n rules-Grammar.after_t rules-Grammar.plain rules-Grammar.rest rules-Grammar.starts_mark rules-Grammar.is_attribute rules-Grammar.past_spaces rules-Grammar.word_at rules-Grammar.is_word rules-Grammar.relation_at rules-Grammar.then rules-Grammar.broken rules-Grammar.given rules-Grammar.closed rules-Grammar.whole rules-Grammar.goes_on rules-Grammar.turn rules-Grammar.chain rules-Grammar.subscripts rules-Grammar.reference rules-Grammar.referred rules-Grammar.decimal_number rules-Grammar.term rules-Grammar.product rules-Grammar.sum rules-Grammar.piece rules-Grammar.add_piece rules-Grammar.goes_on_text rules-Grammar.text rules-Grammar.is_doubled rules-Grammar.add_quoted rules-Grammar.goes_on_quoted rules-Grammar.quoted_text rules-Grammar.substringed rules-Grammar.string rules-Grammar.characters rules-Grammar.deeper rules-Grammar.arithmetic rules-Grammar.text_within rules-Grammar.string_within rules-Grammar.compared_strings rules-Grammar.is_digit_alone rules-Grammar.constant_at rules-Grammar.compared_numbers rules-Grammar.is_flag rules-Grammar.element rules-Grammar.spaced rules-Grammar.negation rules-Grammar.conjunction rules-Grammar.disjunction rules-Grammar.deeper_condition rules-Grammar.condition rules-Lexemes.byte_of rules-Lexemes.field_start rules-Lexemes.follows rules-Lexemes.is_mark rules-Lexemes.after rules-Lexemes.marked rules-Lexemes.symbols rules-Lexemes.lexed rules-Lexemes.unlexed rules-Lexemes.refs_in rules-Lexemes.is_plain rules-Lexemes.is_long rules-Lexemes.is_name rules-Lexemes.sequence_start rules-Lexemes.is_sequence rules-Lexemes.outside rules-Lexemes.enters rules-Lexemes.is_bare rules-Library.operation_of rules-Library.is_macro rules-Library.is_mend rules-Library.macros_from rules-Library.start_symbol rules-Library.is_one_symbol rules-Library.start_symbols rules-Library.positional_names rules-Library.with_default rules-Library.keyword_names rules-Library.of_kind rules-Library.operand_parts rules-Library.locals_by rules-Library.globals_by rules-Library.locals_on rules-Library.globals_on rules-Library.declared_in rules-Library.names_in rules-Library.firsts rules-Library.seconds rules-Library.parameter_names rules-Library.with_globals rules-Library.globals_of rules-Library.is_named rules-Library.line_named rules-Machine.start_of rules-Machine.positional_values rules-Machine.keyword_value rules-Machine.keyword_values rules-Machine.own_values rules-Machine.knows_keywords rules-Machine.body_line rules-Machine.refused_at rules-Machine.refuses rules-Machine.with_levels rules-Machine.is_section rules-Machine.sect_after rules-Machine.put_out rules-Machine.puts rules-Machine.entered rules-Machine.enters rules-Machine.calls rules-Machine.is_title rules-Machine.is_language_word rules-Machine.call_name rules-Machine.written_operands rules-Machine.uses rules-Machine.states rules-Machine.advanced rules-Machine.jumped rules-Machine.renewed_to rules-Machine.keeping rules-Machine.with_shared rules-Machine.acts rules-Machine.reaching rules-Machine.stepped rules-Machine.opened rules-Machine.output_of rules-Machine.open_move rules-Machine.act_at rules-Machine.move rules-Machine.runs rules-Machine.begun rules-Machine.longest_in rules-Machine.enough rules-Machine.expands rules-Machine.at_once rules-Machine.expansion rules-Machine.output_after rules-Machine.workspace_after rules-Machine.outcome rules-Meaning.meaning rules-Places.numbers_at rules-Places.is_of01 rules-Statement.statements rules-Statement.statement_of rules-Statement.map_lex rules-Statement.map_does rules-Statement.map_line rules-Statement.pairs_first rules-Statement.starts_open rules-Statement.condition_end rules-Statement.target_in rules-Statement.is_copied rules-Statement.doing rules-Statement.model_of rules-Statement.says rules-Statement.read rules-Values.within rules-Values.operate rules-Values.decimal rules-Values.magnitude rules-Values.shown_number rules-Values.shown_truth rules-Values.four_digits rules-Values.spelt rules-Values.number_in rules-Values.type_of rules-Values.substring rules-Values.byte_order rules-Values.first_differing rules-Values.string_order rules-Values.number_order rules-Values.holds rules-Values.divided_in rules-Values.entries_of rules-Values.number_of_entries rules-Values.entry rules-Values.listed deck-AsRead.last_byte deck-AsRead.follows_in deck-AsRead.marks_here deck-AsRead.after_lexeme deck-AsRead.is_read_at deck-AsRead.is_read deck-AsRead.is_field deck-AsRead.is_word_field deck-AsRead.is_end deck-AsRead.is_operand deck-AsRead.starts_plainly deck-AsRead.is_model_operation deck-AsRead.is_read_by deck-AsRead.is_read_line deck-AsRead.is_bare_comma deck-AsRead.is_read_default deck-ByDeck.deck_answer deck-ByDeck.deck_expansion deck-ByDeck.by_deck deck-Coders.slot_code deck-Coders.lex_code deck-Coders.lex_of deck-Coders.lexeme deck-Coders.field deck-Coders.string deck-Coders.set_code deck-Coders.set_of deck-Coders.kind deck-Coders.flag_code deck-Coders.flag_of deck-Coders.flag deck-Coders.put_line_by deck-Coders.sets_line deck-Coders.get_sets deck-Coders.get_models deck-Coders.get_text deck-Coders.get_branch_if deck-Coders.get_branch deck-Coders.get_counts deck-Coders.get_line_by deck-Coders.line deck-Coders.parts_of deck-Coders.macro_of deck-Coders.macro deck-Coders.deck_from deck-Coders.contents deck-Coders.encoded deck-Coders.whole_deck deck-Coders.versioned deck-Coders.counted deck-Coders.decoded deck-Coding.after deck-Coding.get_byte deck-Coding.byte deck-Coding.two deck-Coding.four deck-Coding.pair deck-Coding.made deck-Coding.via deck-Coding.put_all deck-Coding.get_all deck-Coding.list_of deck-Good.are_distinct deck-Good.are_distinct_keywords deck-Good.is_keyword deck-Good.is_lexeme deck-Good.are_lexemes deck-Good.is_statement_text deck-Good.is_text deck-Good.is_target deck-Good.is_in_order deck-Good.is_line deck-Good.does_end deck-Good.ends_once deck-Good.does_count deck-Good.may_precede deck-Good.actr_end deck-Good.counts_once deck-Good.is_macro deck-Good.total_lines deck-Good.is_sound deck-Good.is_read_macro deck-Good.is_good deck-Good.if_good deck-Good.good_deck deck-Slots.system_slot deck-Slots.resolved deck-Slots.resolved_line deck-Slots.deck_macro deck-Slots.deck_in deck-Slots.resolved_library deck-Slots.parameters deck-Slots.own_kinds_of deck-Slots.slot_kind deck-Slots.held deck-Slots.no_macro deck-Slots.no_line deck-Slots.deck_header deck-Slots.machine_of_deck deck-Translation.deck_of deck-Translation.translated_by deck-Translation.translated deck-Translation.buffer_after
is_in_good_form s = elim (good_deck s) [ none ↦ false | some d ↦ true ]

unfoldable pub through_deck : Bytes → Bytes → ℕ → Answer
unfolding text-Characters.letter text-Characters.digit text-Characters.letter_or_digit text-Characters.in_set text-Characters.characters text-Characters.letters text-Characters.digits text-Words.words text-Words.word_number rules-ByLines.own_names rules-ByLines.own_kinds rules-ByLines.system_named rules-ByLines.cell_named rules-ByLines.header_of rules-ByLines.reading rules-ByLines.no_reading rules-ByLines.line_in rules-ByLines.machine_of rules-ByLines.machine_of_lines rules-ByLines.by_lines rules-Calls.pair_up rules-Calls.parts rules-Calls.divided rules-Calls.equals_at rules-Calls.has_equals rules-Calls.keyword_of rules-Calls.operand_of rules-Calls.is_among rules-Calls.add_operand rules-Calls.add_keyword rules-Calls.gathered rules-Calls.operands_of rules-Calls.map_keywords rules-Calls.map_operands rules-Calls.put_at rules-Calls.laid_out rules-Calls.trimmed rules-Choice.choose rules-Choice.passed rules-Choice.run rules-Choice.every rules-Choice.any rules-Choice.count rules-Choice.on_first rules-Choice.while rules-Decide.when_got rules-Decide.renewed rules-Decide.unless rules-Decide.value_of rules-Decide.assigned rules-Decide.replaced rules-Decide.operand_value rules-Decide.modelled rules-Decide.decide_by rules-Decide.decide rules-Evaluate.own_cell rules-Evaluate.shared_cell rules-Evaluate.system_cell rules-Evaluate.number_of rules-Evaluate.truth_of rules-Evaluate.shown rules-Evaluate.and_then rules-Evaluate.of_parameter rules-Evaluate.of_list rules-Evaluate.text_of rules-Evaluate.as_number rules-Evaluate.count_bytes rules-Evaluate.count_entries rules-Evaluate.chars rules-Evaluate.chars_if rules-Evaluate.joined_chars rules-Evaluate.measured_chars rules-Evaluate.substring_chars rules-Evaluate.type_chars rules-Evaluate.certain rules-Evaluate.values rules-Faults.no_lines rules-Faults.at_statement rules-Faults.ends_declarations rules-Faults.is_misplaced rules-Faults.is_out_of_place rules-Faults.has_long_symbol rules-Faults.is_long_sequence rules-Faults.declares_wrongly rules-Faults.is_macro_name rules-Faults.before_equals rules-Faults.has_bad_prototype_name rules-Faults.system_kind rules-Faults.set_names rules-Faults.kind_named rules-Faults.is_unknown_kind rules-Faults.has_unknown rules-Faults.is_declared rules-Faults.has_other_kind rules-Faults.is_named_up_to_mend rules-Faults.is_bad_target rules-Faults.target_behind rules-Faults.has_bad_body_name rules-Faults.is_used_twice rules-Faults.has_bad_name rules-Faults.is_default rules-Faults.is_good_part rules-Faults.are_good_parts rules-Faults.is_good_prototype rules-Faults.is_named_or_empty rules-Faults.is_model_name rules-Faults.is_declaration rules-Faults.are_fields_good rules-Faults.kinds_of rules-Faults.is_ill_formed rules-Faults.is_past rules-Faults.is_over_limit rules-Faults.fault_of rules-Faults.place_after rules-Faults.titles_after rules-Faults.globals_after rules-Faults.macros_after rules-Faults.around_after rules-Faults.at_end rules-Faults.verdict_from rules-Faults.verdict rules-Fields.lines_of rules-Fields.is_ill_written rules-Fields.starts_with rules-Fields.is_copied_remark rules-Fields.is_dropped_remark rules-Fields.is_remark rules-Fields.is_space rules-Fields.is_no_space rules-Fields.ends_operand rules-Fields.operand_end rules-Fields.holds_spaces rules-Fields.fields_of rules-Fields.no_fields rules-Fields.statement_fields rules-Fields.is_empty rules-Form.form rules-Form.is_got rules-Form.same_set rules-Form.is_symbol_of rules-Form.is_named_by rules-Form.is_operand_of rules-Form.is_formed_by rules-Form.is_formed rules-Form.any_nesting rules-Grammar.in_text rules-Grammar.as_term rules-Grammar.after_k rules-Grammar.after_n rules-Grammar.after_t rules-Grammar.plain rules-Grammar.rest rules-Grammar.starts_mark rules-Grammar.is_attribute rules-Grammar.past_spaces rules-Grammar.word_at rules-Grammar.is_word rules-Grammar.relation_at rules-Grammar.then rules-Grammar.broken rules-Grammar.given rules-Grammar.closed rules-Grammar.whole rules-Grammar.goes_on rules-Grammar.turn rules-Grammar.chain rules-Grammar.subscripts rules-Grammar.reference rules-Grammar.referred rules-Grammar.decimal_number rules-Grammar.term rules-Grammar.product rules-Grammar.sum rules-Grammar.piece rules-Grammar.add_piece rules-Grammar.goes_on_text rules-Grammar.text rules-Grammar.is_doubled rules-Grammar.add_quoted rules-Grammar.goes_on_quoted rules-Grammar.quoted_text rules-Grammar.substringed rules-Grammar.string rules-Grammar.characters rules-Grammar.deeper rules-Grammar.arithmetic rules-Grammar.text_within rules-Grammar.string_within rules-Grammar.compared_strings rules-Grammar.is_digit_alone rules-Grammar.constant_at rules-Grammar.compared_numbers rules-Grammar.is_flag rules-Grammar.element rules-Grammar.spaced rules-Grammar.negation rules-Grammar.conjunction rules-Grammar.disjunction rules-Grammar.deeper_condition rules-Grammar.condition rules-Lexemes.byte_of rules-Lexemes.field_start rules-Lexemes.follows rules-Lexemes.is_mark rules-Lexemes.after rules-Lexemes.marked rules-Lexemes.symbols rules-Lexemes.lexed rules-Lexemes.unlexed rules-Lexemes.refs_in rules-Lexemes.is_plain rules-Lexemes.is_long rules-Lexemes.is_name rules-Lexemes.sequence_start rules-Lexemes.is_sequence rules-Lexemes.outside rules-Lexemes.enters rules-Lexemes.is_bare rules-Library.operation_of rules-Library.is_macro rules-Library.is_mend rules-Library.macros_from rules-Library.start_symbol rules-Library.is_one_symbol rules-Library.start_symbols rules-Library.positional_names rules-Library.with_default rules-Library.keyword_names rules-Library.of_kind rules-Library.operand_parts rules-Library.locals_by rules-Library.globals_by rules-Library.locals_on rules-Library.globals_on rules-Library.declared_in rules-Library.names_in rules-Library.firsts rules-Library.seconds rules-Library.parameter_names rules-Library.with_globals rules-Library.globals_of rules-Library.is_named rules-Library.line_named rules-Machine.start_of rules-Machine.positional_values rules-Machine.keyword_value rules-Machine.keyword_values rules-Machine.own_values rules-Machine.knows_keywords rules-Machine.body_line rules-Machine.refused_at rules-Machine.refuses rules-Machine.with_levels rules-Machine.is_section rules-Machine.sect_after rules-Machine.put_out rules-Machine.puts rules-Machine.entered rules-Machine.enters rules-Machine.calls rules-Machine.is_title rules-Machine.is_language_word rules-Machine.call_name rules-Machine.written_operands rules-Machine.uses rules-Machine.states rules-Machine.advanced rules-Machine.jumped rules-Machine.renewed_to rules-Machine.keeping rules-Machine.with_shared rules-Machine.acts rules-Machine.reaching rules-Machine.stepped rules-Machine.opened rules-Machine.output_of rules-Machine.open_move rules-Machine.act_at rules-Machine.move rules-Machine.runs rules-Machine.begun rules-Machine.longest_in rules-Machine.enough rules-Machine.expands rules-Machine.at_once rules-Machine.expansion rules-Machine.output_after rules-Machine.workspace_after rules-Machine.outcome rules-Meaning.meaning rules-Places.numbers_at rules-Places.is_of01 rules-Statement.statements rules-Statement.statement_of rules-Statement.map_lex rules-Statement.map_does rules-Statement.map_line rules-Statement.pairs_first rules-Statement.starts_open rules-Statement.condition_end rules-Statement.target_in rules-Statement.is_copied rules-Statement.doing rules-Statement.model_of rules-Statement.says rules-Statement.read rules-Values.within rules-Values.operate rules-Values.decimal rules-Values.magnitude rules-Values.shown_number rules-Values.shown_truth rules-Values.four_digits rules-Values.spelt rules-Values.number_in rules-Values.type_of rules-Values.substring rules-Values.byte_order rules-Values.first_differing rules-Values.string_order rules-Values.number_order rules-Values.holds rules-Values.divided_in rules-Values.entries_of rules-Values.number_of_entries rules-Values.entry rules-Values.listed deck-AsRead.last_byte deck-AsRead.follows_in deck-AsRead.marks_here deck-AsRead.after_lexeme deck-AsRead.is_read_at deck-AsRead.is_read deck-AsRead.is_field deck-AsRead.is_word_field deck-AsRead.is_end deck-AsRead.is_operand deck-AsRead.starts_plainly deck-AsRead.is_model_operation deck-AsRead.is_read_by deck-AsRead.is_read_line deck-AsRead.is_bare_comma deck-AsRead.is_read_default deck-ByDeck.deck_answer deck-ByDeck.deck_expansion deck-ByDeck.by_deck deck-Coders.slot_code deck-Coders.lex_code deck-Coders.lex_of deck-Coders.lexeme deck-Coders.field deck-Coders.string deck-Coders.set_code deck-Coders.set_of deck-Coders.kind deck-Coders.flag_code deck-Coders.flag_of deck-Coders.flag deck-Coders.put_line_by deck-Coders.sets_line deck-Coders.get_sets deck-Coders.get_models deck-Coders.get_text deck-Coders.get_branch_if deck-Coders.get_branch deck-Coders.get_counts deck-Coders.get_line_by deck-Coders.line deck-Coders.parts_of deck-Coders.macro_of deck-Coders.macro deck-Coders.deck_from deck-Coders.contents deck-Coders.encoded deck-Coders.whole_deck deck-Coders.versioned deck-Coders.counted deck-Coders.decoded deck-Coding.after deck-Coding.get_byte deck-Coding.byte deck-Coding.two deck-Coding.four deck-Coding.pair deck-Coding.made deck-Coding.via deck-Coding.put_all deck-Coding.get_all deck-Coding.list_of deck-Good.are_distinct deck-Good.are_distinct_keywords deck-Good.is_keyword deck-Good.is_lexeme deck-Good.are_lexemes deck-Good.is_statement_text deck-Good.is_text deck-Good.is_target deck-Good.is_in_order deck-Good.is_line deck-Good.does_end deck-Good.ends_once deck-Good.does_count deck-Good.may_precede deck-Good.actr_end deck-Good.counts_once deck-Good.is_macro deck-Good.total_lines deck-Good.is_sound deck-Good.is_read_macro deck-Good.is_good deck-Good.if_good deck-Good.good_deck deck-Slots.system_slot deck-Slots.resolved deck-Slots.resolved_line deck-Slots.deck_macro deck-Slots.deck_in deck-Slots.resolved_library deck-Slots.parameters deck-Slots.own_kinds_of deck-Slots.slot_kind deck-Slots.held deck-Slots.no_macro deck-Slots.no_line deck-Slots.deck_header deck-Slots.machine_of_deck deck-Translation.deck_of deck-Translation.translated_by deck-Translation.translated deck-Translation.buffer_after
through_deck deck program room = deck_expansion deck program room 32768
