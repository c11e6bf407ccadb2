-- A refusal that a file's first bytes tell.
use Rattle.std.proofs.Common.{◌≡◌, ℕ, List, refl}
use Rattle.std.specs.Prelude.{Err}
use Rattle.cola_handle.specs.declared.answer.Answer.{Answer}
use Rattle.cola_handle.specs.declared.answer.Answer.TheVariants.{Done, Absent, Other, Full, Worn, Closed, InUse, Length, Options, NotEmpty, NotStore, Small, NotClosed, BadCell, Overfull, Memory}
use Rattle.cola_handle.specs.Stored.{StoredSays}
use Rattle.cola_c.specs.Exports.{SizesStored}

pub unwritten : (why : Answer) (file : List ℕ) (place : ℕ) → StoredSays file (Err why) → SizesStored file place place why
unwritten NotStore file place says = (says, refl)
unwritten Small file place says = (says, refl)
unwritten NotClosed file place says = (says, refl)
unwritten Done file place says = absurd says
unwritten Absent file place says = absurd says
unwritten Other file place says = absurd says
unwritten Full file place says = absurd says
unwritten Worn file place says = absurd says
unwritten Closed file place says = absurd says
unwritten InUse file place says = absurd says
unwritten Length file place says = absurd says
unwritten Options file place says = absurd says
unwritten NotEmpty file place says = absurd says
unwritten BadCell file place says = absurd says
unwritten Overfull file place says = absurd says
unwritten Memory file place says = absurd says
