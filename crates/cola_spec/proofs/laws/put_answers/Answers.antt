use Rattle.cola_spec.proofs.MapLaws.{put_is_full, put_is_worn, put_is_new, put_is_old, put_is_never_other}
use Rattle.cola_spec.proofs.laws.put_answers.Goals as goal

pub returns-clause-full : goal.returns-clause-full
returns-clause-full c = put_is_full

pub returns-clause-worn : goal.returns-clause-worn
returns-clause-worn c = put_is_worn

pub returns-clause-new : goal.returns-clause-new
returns-clause-new c = put_is_new

pub returns-clause-old : goal.returns-clause-old
returns-clause-old c = put_is_old

pub returns-clause-never_other : goal.returns-clause-never_other
returns-clause-never_other c = put_is_never_other
