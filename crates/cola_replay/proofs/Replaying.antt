-- The calls of records, made one after another.
use Rattle.std.proofs.Common.{◌≡◌, ℕ, suc, ◌+◌, ◌-◌, ◌≤◌, true, false, bytes_eq, List, [], ◌∷◌, length, take, drop, Some, None, Ok, Err, refl, sym, ◌∙◌, ap, subst, arith}
use Rattle.std.proofs.lemmas.Slice.Eq.{bytes_eq-Decides}
use Rattle.cola_outside.specs.Faults.{Rose}
use Rattle.cola_device.specs.declared.device.Device as device
use Rattle.cola_spec.specs.Map.{Shape, Map}
use Rattle.cola_cell.proofs.Numbers.{AreBytes}
use Rattle.cola_log.specs.Format.{Logged, Found, first_sum, records_of, sums_after, record_at, read_records, read_log}
use Rattle.cola_log.proofs.Records.{shorter, read_some, read_none, if_true, if_false}
use Rattle.cola_log.proofs.Cutting.{length_log}
use Rattle.cola_log.proofs.Passing.{Passed, passed_none, passed_more, passed_all}
use Rattle.cola_kv.specs.declared.error.Error.{Error}
use Rattle.cola_kv.specs.declared.error.Error.TheVariants.{Device}
use Rattle.cola_kv.specs.declared.kv.Kv.{Kv}
use Rattle.cola_kv.specs.Kv.{Holds, Stays, shape_of, faults_of}
use Rattle.cola_kv.proofs.Answered.{stays-same}
use Rattle.cola_kv.proofs.Listing.{shape-stays}
use Rattle.cola_replay.specs.declared.making.Replayed.{Replayed}
use Rattle.cola_replay.specs.Made.{after, after_all}
use Rattle.cola_replay.specs.Replays.{Remakes, ReplaysRecords, Replays}

module _ {D : Type 0} (d : device.Ghosts D) where
  pub stays-longer : (old mid new : Kv D d) → Stays d old mid → Stays d mid new → Stays d old new
  stays-longer old mid new first second = record {
    geometry_is = second.geometry_is ∙ first.geometry_is;
    cache_is = second.cache_is ∙ first.cache_is;
    opened_is = second.opened_is ∙ first.opened_is;
    kept = second.kept ∙ first.kept;
    faults_stay = omega (arith, first.faults_stay, second.faults_stay);
  }

  -- the map that is held now, from which the calls that are left lead where all of them led
  abbrev pub Leads : (old now : Kv D d) → (calls rest : List Logged) → Map → Type 0
  Leads old now calls rest m = (mid : Map) × Holds d now mid × (after_all (shape_of old) mid rest ≡ after_all (shape_of old) m calls)

  -- so many calls were made, and these bytes are left
  pub record Progress (old now : Kv D d) (sum bytes after rest : List ℕ) (done : ℕ) : Type 0 where
    pub passed : Passed sum bytes after rest
    pub leads : (m : Map) → Holds d old m → Leads old now (read_records sum bytes) (read_records after rest) m
    pub done_are : done + length (read_records after rest) ≡ length (read_records sum bytes)
    pub few : done + length rest ≤ length bytes
    pub stays : Stays d old now

  pub progress_none : (kv : Kv D d) (sum bytes : List ℕ) → AreBytes bytes → Progress kv kv sum bytes sum bytes 0
  progress_none kv sum bytes are = record {
    passed = passed_none sum bytes are;
    leads = λ m holds. (m, holds, refl);
    done_are = omega arith;
    few = omega arith;
    stays = stays-same d kv;
  }

  pub progress_more : (old now new : Kv D d) (sum bytes sum' rest : List ℕ) (done : ℕ) (found : Found) → Progress old now sum bytes sum' rest done → record_at sum' rest ≡ Some found →
      Remakes d now new found.0 None → Progress old new sum bytes found.1 found.2 (done + 1)
  progress_more old now new sum bytes sum' rest done found p is made =
      let read : read_records sum' rest ≡ found.0 ∷ read_records found.1 found.2 = read_some sum' rest found is in
      let many : length (read_records sum' rest) ≡ 1 + length (read_records found.1 found.2) = ap (λ (l : List Logged). length l) read ∙ one_more (length (read_records found.1 found.2)) in
      let same : shape_of now ≡ shape_of old = shape-stays d old now p.stays in
      record {
        passed = passed_more sum bytes sum' rest found p.passed is;
        leads = λ m holds.
            let l = p.leads m holds in (
              after (shape_of old) l.0 found.0,
              subst (λ (s : Shape). Holds d new (after s l.0 found.0)) same (made.map l.0 l.1 refl),
              sym (ap (after_all (shape_of old) l.0) read) ∙ l.2,
            );
        done_are = omega (arith, p.done_are, many);
        few = omega (arith, p.few, shorter sum' rest found is);
        stays = stays-longer old now new p.stays made.stays;
      }
    where
      one_more : (n : ℕ) → suc n ≡ 1 + n
      one_more n = omega arith

  pub progress_all : (old now : Kv D d) (sum bytes sum' rest : List ℕ) (done : ℕ) → Progress old now sum bytes sum' rest done → record_at sum' rest ≡ None →
      ReplaysRecords d old now sum sum' bytes (Ok (length bytes - length rest, done))
  progress_all old now sum bytes sum' rest done p none =
      let no : read_records sum' rest ≡ [] = read_none sum' rest none in
      let zero_left : length (read_records sum' rest) ≡ 0 = ap (λ (l : List Logged). length l) no in
      record {
        map = λ m holds.
            let l = p.leads m holds in
            subst (λ (x : Map). Holds d now x) (sym (ap (after_all (shape_of old) l.0) no) ∙ l.2) l.1;
        refusal = λ m holds. tt;
        passed = passed_all sum bytes sum' rest p.passed none;
        done = omega (arith, p.done_are, zero_left);
        fault = λ e. absurd (cc e);
        stays = p.stays;
      }

  pub progress_failed : (old now new : Kv D d) (sum bytes sum' rest : List ℕ) (done : ℕ) (it : Logged) (e : Error) → Progress old now sum bytes sum' rest done → Remakes d now new it (Some e) →
      ReplaysRecords d old new sum sum' bytes (Err e)
  progress_failed old now new sum bytes sum' rest done it e p made = record {
    map = λ m holds. tt;
    refusal = λ m holds. let l = p.leads m holds in made.refusal l.0 l.1 e refl;
    passed = tt;
    done = tt;
    fault = λ is. let same : e ≡ Device = cc is in later (faults_of d old) (faults_of d now) (faults_of d new) p.stays.faults_stay (made.fault (ap Some same));
    stays = stays-longer old now new p.stays made.stays;
  }
    where
      later : (a b c : ℕ) → a ≤ b → Rose b c → Rose a c
      later a b c h rose = omega (arith, h, rose)

  -- The whole log

  pub replays_other : (kv : Kv D d) (page bytes sum : List ℕ) (replayed : Replayed) → sum ≡ first_sum page → bytes_eq (take 32 bytes) sum ≡ false →
      replayed.sum.sum ≡ sum → replayed.whole ≡ 0 → replayed.done ≡ 0 → Replays d kv kv page bytes (Ok replayed)
  replays_other kv page bytes sum replayed is other sum_is whole done =
      let first = first_sum page in
      let apart : bytes_eq (take 32 bytes) first ≡ false = subst (λ (s : List ℕ). bytes_eq (take 32 bytes) s ≡ false) is other in
      let none : read_log page bytes ≡ [] = if_false (bytes_eq (take 32 bytes) first) (read_records first (drop 32 bytes)) [] apart in
      record {
        map = λ m holds. subst (λ (l : List Logged). Holds d kv (after_all (shape_of kv) m l)) (sym none) holds;
        refusal = λ m holds. tt;
        told = record {
          whole = λ same. let yes : bytes_eq (take 32 bytes) first ≡ true = (bytes_eq-Decides (take 32 bytes) first).1 same in absurd (cc (yes, apart));
          none = λ differs. whole;
          sum_is = sum_is ∙ is ∙ ap (sums_after first) (sym none);
          done = done ∙ ap (λ (l : List Logged). length l) (sym none);
        };
        others = λ differs. refl;
        fault = λ e. absurd (cc e);
        stays = stays-same d kv;
      }

  begins_so : (page bytes sum rest : List ℕ) → sum ≡ first_sum page → (bytes_eq (take 32 bytes) sum ≡ true) × (rest ≡ drop 32 bytes) → take 32 bytes ≡ first_sum page
  begins_so page bytes sum rest is same = (bytes_eq-Decides (take 32 bytes) sum).0 same.0 ∙ is

  pub replays_failed : (old new : Kv D d) (page bytes sum rest sum' : List ℕ) (e : Error) → sum ≡ first_sum page → (bytes_eq (take 32 bytes) sum ≡ true) × (rest ≡ drop 32 bytes) →
      ReplaysRecords d old new sum sum' rest (Err e) → Replays d old new page bytes (Err e)
  replays_failed old new page bytes sum rest sum' e is same r = record {
    map = λ m holds. tt;
    refusal = r.refusal;
    told = tt;
    others = λ differs. absurd (differs (begins_so page bytes sum rest is same));
    fault = λ fails. let fault : e ≡ Device = cc fails in r.fault (ap Err fault);
    stays = r.stays;
  }

  pub replays_all : (old new : Kv D d) (page bytes sum rest sum' : List ℕ) (made : ℕ × ℕ) (replayed : Replayed) → sum ≡ first_sum page → (bytes_eq (take 32 bytes) sum ≡ true) × (rest ≡ drop 32 bytes) →
      ReplaysRecords d old new sum sum' rest (Ok made) → replayed.sum.sum ≡ sum' → replayed.whole ≡ 32 + made.0 → replayed.done ≡ made.1 →
      Replays d old new page bytes (Ok replayed)
  replays_all old new page bytes sum rest sum' made replayed is same r sum_is whole done =
      let first = first_sum page in
      let begun = begins_so page bytes sum rest is same in
      let read : read_records sum rest ≡ read_log page bytes =
      ap (λ (s : List ℕ). read_records s rest) is ∙ ap (read_records first) same.1
      ∙ sym (if_true (bytes_eq (take 32 bytes) first) (read_records first (drop 32 bytes)) [] ((bytes_eq-Decides (take 32 bytes) first).1 begun)) in
      let records : records_of sum (read_records sum rest) ≡ records_of first (read_log page bytes) =
      ap (λ (s : List ℕ). records_of s (read_records sum rest)) is ∙ ap (records_of first) read in
      let sums : sums_after sum (read_records sum rest) ≡ sums_after first (read_log page bytes) =
      ap (λ (s : List ℕ). sums_after s (read_records sum rest)) is ∙ ap (sums_after first) read in
      record {
        map = λ m holds. subst (λ (l : List Logged). Holds d new (after_all (shape_of old) m l)) read (r.map m holds);
        refusal = λ m holds. tt;
        told = record {
          whole = λ so. whole ∙ ap (λ (n : ℕ). 32 + n) (r.passed.size_is ∙ ap (λ (l : List ℕ). length l) records) ∙ sym (length_log page (read_log page bytes));
          none = λ differs. absurd (differs begun);
          sum_is = sum_is ∙ r.passed.sum_is ∙ sums;
          done = done ∙ r.done ∙ ap (λ (l : List Logged). length l) read;
        };
        others = λ differs. absurd (differs begun);
        fault = λ e. absurd (cc e);
        stays = r.stays;
      }
