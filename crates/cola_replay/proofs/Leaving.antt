-- What is read of a log that a crash left.
use Rattle.std.proofs.Common.{◌≡◌, ◌≢◌, inl, ℕ, zero, suc, ◌<◌, Bool, true, false, bytes_eq, List, [], ◌∷◌, ◌++◌, append-nil, take, drop, slice_index, Some, refl, sym, ◌∙◌, ap, subst, append_assoc}
use Rattle.std.specs.Prelude.{if◌then◌else◌}
use Rattle.std.proofs.lemmas.Bool.{false_from_ne_true}
use Rattle.std.proofs.lemmas.List.{take_at}
use Rattle.std.proofs.lemmas.Slice.Eq.{bytes_eq-Decides}
use Rattle.sha2.proofs.Facts256.{length-sha256}
use Rattle.cola_journal.specs.Disk.{Contents, Same}
use Rattle.cola_log.specs.Format.{Logged, AllFit, first_sum, log_of, sum_after, record_of, records_of, sums_after, record_at, read_records, read_log}
use Rattle.cola_replay.specs.Crash.{bytes_from, sum_of, IsFront, LogDisk, WasToHave, IsUnforged, follows}
use Rattle.cola_log.proofs.Records.{record_read, log_read, if_false}
use Rattle.cola_log.proofs.Spelling.{is_spelled}

-- Headers

pub bytes_same : (n place : ℕ) (file other : Contents) → Same file other → bytes_from n place file ≡ bytes_from n place other
unfolding bytes_from
bytes_same zero place file other same = refl
bytes_same (suc n) place file other same = λ i. same place i ∷ bytes_same n (suc place) file other same i

pub sum_same : (file other : Contents) → Same file other → sum_of file ≡ sum_of other
sum_same file other same = ap first_sum (bytes_same 4096 0 file other same)

pub follows_same : (log : LogDisk) (file other : Contents) → Same file other → follows log file ≡ follows log other
follows_same log file other same = ap (λ (s : List ℕ). bytes_eq (first_sum log.page) s) (sum_same file other same)

pub followed : (log : LogDisk) (held : Contents) → follows log held ≡ true → first_sum log.page ≡ sum_of held
followed log held is = (bytes_eq-Decides (first_sum log.page) (sum_of held)).0 is

pub is_followed : (log : LogDisk) (held : Contents) → first_sum log.page ≡ sum_of held → follows log held ≡ true
is_followed log held is = (bytes_eq-Decides (first_sum log.page) (sum_of held)).1 is

pub not_followed : (log : LogDisk) (file : Contents) → first_sum log.page ≢ sum_of file → follows log file ≡ false
not_followed log file other = false_from_ne_true (follows log file) (λ is. other (followed log file is))

pub other_sum : (log : LogDisk) (file : Contents) → follows log file ≡ false → first_sum log.page ≢ sum_of file
other_sum log file isnt is = let yes : follows log file ≡ true = is_followed log file is in absurd (cc (yes, isnt))

-- Fronts

pub front_self : (xs : List Logged) → IsFront xs xs
front_self xs = ([], sym (append-nil xs))

pub front_nil : (xs : List Logged) → IsFront [] xs
front_nil xs = (xs, refl)

pub front_more : (xs ys : List Logged) → IsFront xs (xs ++ ys)
front_more xs ys = (ys, refl)

pub front_longer : (xs ys zs : List Logged) → IsFront xs ys → IsFront ys zs → IsFront xs zs
front_longer xs ys zs first second =
    (first.0 ++ second.0, second.1 ∙ ap (λ (l : List Logged). l ++ second.0) first.1 ∙ append_assoc xs first.0 second.0)

pub front_behind : (base xs ys : List Logged) → IsFront xs ys → IsFront (base ++ xs) (base ++ ys)
front_behind base xs ys front = (front.0, ap (λ (l : List Logged). base ++ l) front.1 ∙ sym (append_assoc base xs front.0))

pub fits_both : (xs ys : List Logged) → AllFit xs → AllFit ys → AllFit (xs ++ ys)
fits_both [] ys fit other = other
fits_both (x ∷ xs) ys fit other = (fit.0, fits_both xs ys fit.1 other)

-- Records

records_front : (sum : List ℕ) (xs ys : List Logged) → records_of sum (xs ++ ys) ≡ records_of sum xs ++ records_of (sums_after sum xs) ys
records_front sum [] ys = refl
records_front sum (x ∷ xs) ys =
    ap (λ (l : List ℕ). record_of sum x ++ l) (records_front (sum_after sum x) xs ys)
    ∙ sym (append_assoc (record_of sum x) (records_of (sum_after sum x) xs) (records_of (sums_after (sum_after sum x) xs) ys))

-- the log behind some of its calls
log_front : (page : List ℕ) (xs ys : List Logged) (behind : List ℕ) →
    log_of page (xs ++ ys) ++ behind ≡ log_of page xs ++ (records_of (sums_after (first_sum page) xs) ys ++ behind)
log_front page xs ys behind =
    let first = first_sum page in
    let mine = records_of first xs in
    let others = records_of (sums_after first xs) ys in
    ap (λ (l : List ℕ). (first ++ l) ++ behind) (records_front first xs ys)
    ∙ ap (λ (l : List ℕ). l ++ behind) (sym (append_assoc first mine others))
    ∙ append_assoc (first ++ mine) others behind

module _ (log : LogDisk) (bytes : List ℕ) (unforged : IsUnforged log bytes) (behind : List ℕ) where
  grows : (front calls : List Logged) → bytes ≡ log_of log.page (front ++ calls) ++ behind → AllFit calls → WasToHave log front → WasToHave log (front ++ calls)
  grows front [] is fit was = subst (λ (l : List Logged). WasToHave log l) (sym (append-nil front)) was
  grows front (it ∷ calls) is fit was =
      let sum = sums_after (first_sum log.page) front in
      let others = records_of (sum_after sum it) calls ++ behind in
      let rest = records_of sum (it ∷ calls) ++ behind in
      let at : record_at sum rest ≡ Some (it, sum_after sum it, others) =
      ap (record_at sum) (append_assoc (record_of sum it) (records_of (sum_after sum it) calls) behind) ∙ record_read sum it others fit.0 in
      let one : WasToHave log (front ++ it ∷ []) = unforged front rest (it, sum_after sum it, others) (is ∙ log_front log.page front (it ∷ calls) behind) was at in
      let lists : (front ++ it ∷ []) ++ calls ≡ front ++ it ∷ calls = append_assoc front (it ∷ []) calls in
      subst (λ (l : List Logged). WasToHave log l) lists
      (grows (front ++ it ∷ []) calls (is ∙ ap (λ (l : List Logged). log_of log.page l ++ behind) (sym lists)) fit.1 one)

-- what is read was to be there
pub were_to_have : (log : LogDisk) (bytes : List ℕ) → ((k : ℕ) → slice_index bytes k < 256) → IsUnforged log bytes → WasToHave log (read_log log.page bytes) × AllFit (read_log log.page bytes)
were_to_have log bytes are unforged = by_test (bytes_eq (take 32 bytes) (first_sum log.page)) refl
  where
    by_test : (b : Bool) → bytes_eq (take 32 bytes) (first_sum log.page) ≡ b → WasToHave log (read_log log.page bytes) × AllFit (read_log log.page bytes)
    by_test true is =
        let spelled = is_spelled log.page bytes are in
        let begins = spelled.begun ((bytes_eq-Decides (take 32 bytes) (first_sum log.page)).0 is) in
        (grows log bytes unforged begins.behind [] (read_log log.page bytes) begins.bytes_are begins.fit (inl (log.calls, refl)), begins.fit)
    by_test false is =
        let none : read_log log.page bytes ≡ [] = if_false (bytes_eq (take 32 bytes) (first_sum log.page)) (read_records (first_sum log.page) (drop 32 bytes)) [] is in
        (subst (λ (l : List Logged). WasToHave log l) (sym none) (inl (log.calls, refl)), subst (λ (l : List Logged). AllFit l) (sym none) tt)

-- what stands in front is read
pub front_found : (page : List ℕ) (calls : List Logged) (bytes rest : List ℕ) → AllFit calls → bytes ≡ log_of page calls ++ rest → IsFront calls (read_log page bytes)
front_found page calls bytes rest fit is = (read_records (sums_after (first_sum page) calls) rest, ap (read_log page) is ∙ log_read page calls rest fit)

-- a log is read by its sum alone
abbrev read_by : List ℕ → List ℕ → List Logged
read_by sum bytes = if bytes_eq (take 32 bytes) sum then read_records sum (drop 32 bytes) else []

pub read_same : (page other bytes : List ℕ) → first_sum page ≡ first_sum other → read_log page bytes ≡ read_log other bytes
read_same page other bytes same = ap (λ (s : List ℕ). read_by s bytes) same

pub passed_over : (page other : List ℕ) (calls : List Logged) (bytes rest : List ℕ) → bytes ≡ log_of page calls ++ rest → first_sum page ≢ first_sum other → read_log other bytes ≡ []
passed_over page other calls bytes rest is apart =
    let first = first_sum page in
    let front : take 32 bytes ≡ first =
    ap (take 32) (is ∙ append_assoc first (records_of first calls) rest) ∙ take_at first (records_of first calls ++ rest) 32 (length-sha256 _) in
    if_false (bytes_eq (take 32 bytes) (first_sum other)) (read_records (first_sum other) (drop 32 bytes)) []
    (false_from_ne_true (bytes_eq (take 32 bytes) (first_sum other)) (λ yes. apart (sym front ∙ (bytes_eq-Decides (take 32 bytes) (first_sum other)).0 yes)))
