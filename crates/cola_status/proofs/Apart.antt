-- No two statuses have one number, and each stands among all.
use Rattle.std.proofs.Common.{◌≡◌, ◌∙◌, ℕ, List, [], ◌∷◌, Option, Some, refl, sym, ap, unwrap_or}
use Rattle.std.specs.Prelude.{slice_get}
use Rattle.cola_status.specs.declared.status.Status.{Status}
use Rattle.cola_status.specs.declared.status.Status.TheVariants as known
use Rattle.cola_status.specs.Statuses.{all_statuses, number_of}

-- all of them by their numbers
abbrev numbered : List Status
numbered = known.Done ∷ known.OutOfMemory ∷ known.WrongWords ∷ known.SourceFailed ∷ known.SinkFailed ∷ known.DeviceFailed ∷ known.NotStore ∷ known.NotClosed ∷ known.NotEmpty ∷ known.Spent ∷ known.BadCell ∷ known.NoRoom ∷ known.AlreadyWide ∷ known.Broken ∷ known.BadLine ∷ known.TooFewKeys ∷ known.FilesDiffer ∷ known.FirstLost ∷ known.SecondLost ∷ []

placed : (a : Status) → slice_get numbered (number_of a) ≡ Some a
placed known.Done = refl
placed known.OutOfMemory = refl
placed known.WrongWords = refl
placed known.SourceFailed = refl
placed known.SinkFailed = refl
placed known.DeviceFailed = refl
placed known.NotStore = refl
placed known.NotClosed = refl
placed known.NotEmpty = refl
placed known.Spent = refl
placed known.BadCell = refl
placed known.NoRoom = refl
placed known.AlreadyWide = refl
placed known.Broken = refl
placed known.BadLine = refl
placed known.TooFewKeys = refl
placed known.FilesDiffer = refl
placed known.FirstLost = refl
placed known.SecondLost = refl

-- the place of each among all
pub listed : (a : Status) → (place : ℕ) × (slice_get all_statuses place ≡ Some a)
listed known.Done = (0, refl)
listed known.OutOfMemory = (1, refl)
listed known.WrongWords = (2, refl)
listed known.SourceFailed = (3, refl)
listed known.SinkFailed = (4, refl)
listed known.DeviceFailed = (5, refl)
listed known.NotStore = (6, refl)
listed known.NotClosed = (7, refl)
listed known.NotEmpty = (8, refl)
listed known.Spent = (9, refl)
listed known.BadCell = (10, refl)
listed known.NoRoom = (11, refl)
listed known.AlreadyWide = (12, refl)
listed known.Broken = (13, refl)
listed known.BadLine = (14, refl)
listed known.TooFewKeys = (15, refl)
listed known.FilesDiffer = (16, refl)
listed known.FirstLost = (17, refl)
listed known.SecondLost = (18, refl)

some-same : (a b : Status) → Some a ≡ Some b → a ≡ b
some-same a b e = ap (λ (o : Option Status). unwrap_or o a) e

pub apart : (a b : Status) → number_of a ≡ number_of b → a ≡ b
apart a b e = some-same a b (sym (placed a) ∙ ap (slice_get numbered) e ∙ placed b)
