-- Lines where searches stop.
use Rattle.std.proofs.Common.{◌≡◌, inl, inr, ℕ, zero, suc, ◌+◌, ◌*◌, ◌≤◌, ◌<◌, List, [], ◌∷◌, ◌++◌, length, drop, get_or, None, Result, Ok, refl, sym, ap, subst, ◌∙◌, arith, append_assoc, Bool}
use Rattle.std.proofs.lemmas.List.{append-nil, drop_all, drop_more}
use Rattle.std.specs.List.{AllByRecursion}
use Rattle.cola_runs.specs.Search as laws
use Rattle.cola_cell.specs.declared.cell.Run.{Run}
use Rattle.cola_cell.specs.declared.fault.ReadFault.{ReadFault}
use Rattle.cola_cell.specs.declared.fault.ReadFault.TheVariants.{Device, BadCell}
use Rattle.cola_cell.specs.Held.{Held, LawCell, Stamped}
use Rattle.cola_cell.specs.State.{State}
use Rattle.cola_cell.specs.Listed.{IsRun}
use Rattle.cola_look.specs.declared.seeking.Seat.{Seat}
use Rattle.cola_cell.specs.Order.{key_cmp}
use Rattle.cola_look.specs.Outcome.{Found, Answers}
use Rattle.cola_look.specs.Runs.{HasRun, AreRuns}
use Rattle.cola_look.specs.Seeks.{Seeks}
use Rattle.cola_look.specs.Seek.{as_seat, SeekCause}
use Rattle.cola_cursor.specs.declared.line.Line.{Line}
use Rattle.cola_cursor.specs.Lines.{LineFits, Reading, left_of, all_left}
use Rattle.cola_cursor.specs.Seeking.{places_from, cells_of, length_of_first, HasBadIn, HasBadRun, RunsCause}
use Rattle.cola_cursor.proofs.Lists.{left_append}

module _ (falls : Bool) where
  -- what a search spends
  pub reading_of : {run : Run} {next_len start : ℕ} {key : List ℕ} {old new : State} {before after : ℕ} {result : Result Seat ReadFault} →
      Seeks run next_len start key old new before after result → Reading old new before after
  reading_of s = let c = s.costs in let e = s.each_turn in record {
    costs = record {
      steps_stay = c.steps_stay;
      steps_rise = (let s = c.steps_stay in omega arith);
      ticked_is = c.ticked_is;
      turned_stays = c.turned_stays;
      turned_rises = (let s = c.steps_stay in omega arith);
      written_is = c.written_is;
      faults_stay = c.faults_stay;
    };
    others_stay = s.others_stay;
  }

  -- a line where a search stops
  pub line_fits : (held : Held) (line : Line) → HasRun held line.run → line.place ≤ line.run.len → line.head ≡ None → LineFits falls held line
  line_fits held line r p h = record { run = r; place_in = p; head = subst (λ x. Rattle.cola_cursor.specs.Lines.HeadFits falls held line.run line.place x) (sym h) tt }

  pub all_append : {X : Type 0} (P : X → Type 0) (xs : List X) (x : X) → AllByRecursion P xs → P x → AllByRecursion P (xs ++ x ∷ [])
  all_append P [] x h p = (p, tt)
  all_append P (y ∷ xs) x h p = (h.0, all_append P xs x h.1 p)

  -- a run of a told list of runs
  pub record ToldRun (held : Held) (runs : List Run) (lists : List (List LawCell)) (i : ℕ) (d : Run) : Type 0 where
    pub cells : List LawCell
    pub here : drop i lists ≡ cells ∷ drop (i + 1) lists
    pub is_run : IsRun held (get_or runs i d) cells
    pub next_is : length_of_first (drop (i + 1) runs) ≡ laws.first_len (drop (i + 1) lists)

  first_length : (held : Held) (runs : List Run) (lists : List (List LawCell)) → AreRuns held runs lists → length_of_first runs ≡ laws.first_len lists
  first_length held [] [] h = refl
  first_length held [] (cells ∷ lists) h = absurd h
  first_length held (run ∷ runs) [] h = absurd h
  first_length held (run ∷ runs) (cells ∷ lists) h = h.0.length_is

  pub told_run : (held : Held) (runs : List Run) (lists : List (List LawCell)) (i : ℕ) (d : Run) → AreRuns held runs lists → i < length runs → ToldRun held runs lists i d
  told_run held [] lists i d h l = absurd (omega arith)
  told_run held (run ∷ runs) [] i d h l = absurd h
  told_run held (run ∷ runs) (cells ∷ lists) zero d h l =
      let e : 0 + 1 ≡ suc 0 = omega arith in
      record {
        cells = cells;
        here = ap (λ n. cells ∷ drop n (cells ∷ lists)) (sym e);
        is_run = h.0;
        next_is = ap (λ n. length_of_first (drop n (run ∷ runs))) e ∙ first_length held runs lists h.1 ∙ ap (λ n. laws.first_len (drop n (cells ∷ lists))) (sym e);
      }
  told_run held (run ∷ runs) (cells ∷ lists) (suc i) d h l =
      let r = told_run held runs lists i d h.1 (omega arith) in
      let e : suc i + 1 ≡ suc (i + 1) = omega arith in
      record {
        cells = r.cells;
        here = r.here ∙ ap (λ n. r.cells ∷ drop n (cells ∷ lists)) (sym e);
        is_run = r.is_run;
        next_is = ap (λ n. length_of_first (drop n (run ∷ runs))) e ∙ r.next_is ∙ ap (λ n. laws.first_len (drop n (cells ∷ lists))) (sym e);
      }

  -- one run more, where its search stops as the laws say
  pub places_next : (held : Held) (runs : List Run) (lists : List (List LawCell)) (i : ℕ) (d : Run) (key : List ℕ) (start : ℕ) (seat : Seat) (next_len : ℕ) (places now whole : List ℕ) → AreRuns held runs lists → i < length runs →
      next_len ≡ length_of_first (drop (i + 1) runs) →
      ((cells : List LawCell) → IsRun held (get_or runs i d) cells → Answers (Found (laws.seek key_cmp key start cells next_len)) as_seat (Ok seat)) → now ≡ places ++ seat.pos ∷ [] →
      places ++ places_from key start (drop i lists) ≡ whole → now ++ places_from key seat.link (drop (i + 1) lists) ≡ whole
  places_next held runs lists i d key start seat next_len places now whole h l n told e w =
      let t = told_run held runs lists i d h l in
      let s : as_seat seat ≡ laws.seek key_cmp key start t.cells next_len = told t.cells t.is_run in
      let pos : seat.pos ≡ laws.stop key_cmp key start t.cells = ap (λ (x : laws.Seat Stamped). x.pos) s in
      let link : seat.link ≡ laws.link_at t.cells (laws.first_len (drop (i + 1) lists)) (laws.stop key_cmp key start t.cells) =
      ap (λ (x : laws.Seat Stamped). x.link) s ∙ ap (λ m. laws.link_at t.cells m (laws.stop key_cmp key start t.cells)) (n ∙ t.next_is) in
      let rest : List ℕ = places_from key (laws.link_at t.cells (laws.first_len (drop (i + 1) lists)) (laws.stop key_cmp key start t.cells)) (drop (i + 1) lists) in
      ap (λ z. z ++ places_from key seat.link (drop (i + 1) lists)) e
      ∙ append_assoc places (seat.pos ∷ []) (places_from key seat.link (drop (i + 1) lists))
      ∙ ap (λ z. places ++ seat.pos ∷ places_from key z (drop (i + 1) lists)) link
      ∙ ap (λ z. places ++ z ∷ rest) pos
      ∙ ap (λ z. places ++ places_from key start z) (sym t.here) ∙ w

  lists_length : (held : Held) (runs : List Run) (lists : List (List LawCell)) → AreRuns held runs lists → length lists ≡ length runs
  lists_length held [] [] h = refl
  lists_length held [] (cells ∷ lists) h = absurd h
  lists_length held (run ∷ runs) [] h = absurd h
  lists_length held (run ∷ runs) (cells ∷ lists) h = ap suc (lists_length held runs lists h.1)

  pub places_whole : (held : Held) (runs : List Run) (lists : List (List LawCell)) (i : ℕ) (key : List ℕ) (start : ℕ) (places whole : List ℕ) → AreRuns held runs lists → length runs ≤ i →
      places ++ places_from key start (drop i lists) ≡ whole → places ≡ whole
  places_whole held runs lists i key start places whole h l w =
      let n = lists_length held runs lists h in
      sym (append-nil places) ∙ ap (λ z. places ++ places_from key start z) (sym (drop_all i lists (omega arith))) ∙ w

  -- what is spent of one run more
  pub left_more : (runs : List Run) (i : ℕ) (d : Run) (lines now : List Line) (line : Line) (before between after : ℕ) → i < length runs → now ≡ lines ++ line ∷ [] → line.run ≡ get_or runs i d → after ≤ between + 8 →
      between + all_left lines + cells_of (drop i runs) ≤ before + 8 * i + cells_of runs → after + all_left now + cells_of (drop (i + 1) runs) ≤ before + 8 * (i + 1) + cells_of runs
  left_more runs i d lines now line before between after l e r t h =
      let a = ap all_left e ∙ left_append falls lines line in
      let b : left_of line ≤ line.run.len = omega arith in
      let c : line.run.len ≡ (get_or runs i d).len = ap (λ (x : Run). x.len) r in
      let f : cells_of (drop i runs) ≡ (get_or runs i d).len + cells_of (drop (i + 1) runs) = ap cells_of (drop_more runs i d l) in
      omega arith

  -- a refused search of one of the runs
  pub bad_run : (held object : Held) (runs : List Run) (i : ℕ) (d : Run) (start before between now : ℕ) (fault : ReadFault) → held ≡ object → between ≡ before → i < length runs →
      SeekCause held (get_or runs i d) start between now fault → RunsCause object runs before now fault
  bad_run held object runs i d start before between now fault e f l h =
      go fault (subst (λ n. SeekCause object (get_or runs i d) start n now fault) f (subst (λ (x : Held). SeekCause x (get_or runs i d) start between now fault) e h))
    where
      at : (number : ℕ) (runs : List Run) (i : ℕ) → i < length runs → HasBadIn object (get_or runs i d) number → HasBadRun object number runs
      at number [] i l b = absurd (omega arith)
      at number (x ∷ runs) zero l b = inl b
      at number (x ∷ runs) (suc i) l b = inr (at number runs i (omega arith) b)

      go : (fault : ReadFault) → SeekCause object (get_or runs i d) start before now fault → RunsCause object runs before now fault
      go Device h = h
      go (BadCell number) h = at number runs i l (record { index = h.index; within = (let w = h.within in omega arith); bad = h.bad })
