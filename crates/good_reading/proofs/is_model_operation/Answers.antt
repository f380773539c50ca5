use Rattle.good_reading.proofs.Words.{operation-is}
use Rattle.good_reading.proofs.is_model_operation.Goals as goal

pub returns : goal.returns
returns c = operation-is c.args.code.now c.word-word.result _ _ c.word-word.ensures.number c.is_word_field-field.ensures c.is_none.ensures
