use Rattle.cola_spec.proofs.ToldLaws.{told_by_texts, texts_by_told, told_by_text}
use Rattle.cola_spec.proofs.reply_laws.texts_tell_replies.Goals as goal

pub returns-clause-turns : goal.returns-clause-turns
returns-clause-turns c = λ cost turns others all other_all. (told_by_texts cost turns others all other_all, texts_by_told cost turns others)

pub returns-clause-replies : goal.returns-clause-replies
returns-clause-replies c = told_by_text
