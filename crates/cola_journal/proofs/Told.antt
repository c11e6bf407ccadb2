-- What a file is, in the middle of a checkpoint, to those who know of no journal.
use Rattle.std.proofs.Common.{◌≡◌, ◌≢◌, ◌⊎◌, inl, inr, ⊎_elim, ℕ, true, false, List, [], ◌∷◌, Option, Some, None, refl, sym, ◌∙◌, ap, subst, arith}
use Rattle.std.specs.Prelude.{not, nat_lt, is_some}
use Rattle.std.proofs.lemmas.Bool.{cases_eq, cases_Bool, and_parts, and_cases, and_right, eqb-true}
use Rattle.cola_journal.specs.declared.stage.Stage.{Stage}
use Rattle.cola_journal.specs.declared.stage.Stage.TheVariants.{Rest, Journal, JournalSync, Found, Mark, MarkSync, Body, BodySync, Header, HeaderSync, Empty, EmptySync, Stuck, Littered}
use Rattle.cola_journal.specs.Stages.{step_of, after, resumed, opened}
use Rattle.cola_journal.specs.Disk.{Contents, Same, Pages, Disk, with_pages, Wrote, LeavesFile, LeavesJournal, MadeWhole, IsHeaderWhole, in_use, header_of, behind_header, begun_write, begun, carried, fallen, abandoned}
use Rattle.cola_journal.specs.Runs.{World, Event, Carried, Refused, Fallen, Died, Begins, Resumes, under_way, held_after, from_after, coming_after, found, CanHappen, happens, IsRun, HeaderStays, HeadersStay, behind, IsTold}
use Rattle.cola_journal.proofs.Kept.{pick, taken, left_of, Loose, Filed, Inv, filed_is, filed_reads, filed_write, filed_refused, filed_fallen, filed_died, in_mark, in_body, in_header, keeps}

-- where none is left
nothing : (writes : List Pages) (place byte : ℕ) → writes ≡ [] → Wrote writes place byte → ⊥
nothing writes place byte none wrote = subst (λ (l : List Pages). Wrote l place byte) none wrote

-- nothing but the mark is written
pub record Untouched (held from file : Contents) (writes : List Pages) : Type 0 where
  pub is : Same file from ⊎ Same file held
  pub marks : (place byte : ℕ) → Wrote writes place byte → (place ≡ 14) × (byte ≡ 1)

-- the file says that it is in use, and no write says anything else
pub record InUse (file : Contents) (writes : List Pages) : Type 0 where
  pub says : file 14 ≢ 0
  pub stays : (byte : ℕ) → Wrote writes 14 byte → byte ≢ 0

abbrev pub Closes : Contents → Contents → List Pages → Type 0
Closes held file [] = Unit {0}
Closes held file (pages ∷ writes) =
    (pages.has 14 ≡ true → pages.byte 14 ≡ 0 → (place : ℕ) → nat_lt place 512 ≡ true → with_pages pages file place ≡ held place) × Closes held file writes

-- all behind the header is what holds
pub record Done (held file : Contents) (writes : List Pages) : Type 0 where
  pub says : file 14 ≢ 0
  pub body : (place : ℕ) → nat_lt place 512 ≡ false → file place ≡ held place
  pub writes_body : (place byte : ℕ) → nat_lt place 512 ≡ false → Wrote writes place byte → byte ≡ held place
  pub closes : Closes held file writes

abbrev pub Middle : Contents → Contents → Contents → List Pages → Type 0
Middle held from file writes = Untouched held from file writes ⊎ (InUse file writes ⊎ Done held file writes)

-- What it is told to be

abbrev Tells : Contents → Contents → Contents → Type 0
Tells held from left = (left 14 ≢ 0) ⊎ (Same left from ⊎ Same left held)

made_held : (held file left : Contents) (writes : List Pages) → MadeWhole writes file left → Closes held file writes → left 14 ≡ 0 → (place : ℕ) → nat_lt place 512 ≡ true → left place ≡ held place
made_held held file left [] made closes zero place low = absurd made
made_held held file left (pages ∷ writes) (inl made) closes zero place low =
    let byte : pages.byte 14 ≡ 0 = sym (taken (pages.has 14) (pages.byte 14) (file 14) made.0) ∙ sym (made.1 14 refl) ∙ zero in
    made.1 place low ∙ closes.0 made.0 byte place low
made_held held file left (pages ∷ writes) (inr made) closes zero place low = made_held held file left writes made closes.1 zero place low

untouched_same : (held from : Contents) (disk : Disk) → Untouched held from disk.file disk.writes → (left : Contents) → LeavesFile disk left → left 14 ≡ 0 → Same left disk.file
untouched_same held from disk untouched left leaves zero place =
    ⊎_elim (λ e. e) (λ wrote.
    let mark = untouched.marks place (left place) wrote in
    let at_14 : left place ≡ left 14 = ap left mark.0 in
    absurd (one_is_not_zero (left place) mark.1 (at_14 ∙ zero))) (leaves place)
  where
    one_is_not_zero : (byte : ℕ) → byte ≡ 1 → byte ≡ 0 → ⊥
    one_is_not_zero byte one zero = omega (arith, one, zero)

closed : (held from : Contents) (disk : Disk) → Middle held from disk.file disk.writes → (left : Contents) → LeavesFile disk left → IsHeaderWhole disk left → left 14 ≡ 0 → Tells held from left
closed held from disk (inl untouched) left leaves whole zero =
    let same = untouched_same held from disk untouched left leaves zero in
    ⊎_elim (λ is. inr (inl (λ place. same place ∙ is place))) (λ is. inr (inr (λ place. same place ∙ is place))) untouched.is
closed held from disk (inr (inl use_it)) left leaves whole zero =
    absurd (⊎_elim (λ e. use_it.says (sym e ∙ zero)) (λ wrote. use_it.stays (left 14) wrote zero) (leaves 14))
closed held from disk (inr (inr done)) left leaves whole zero =
    ⊎_elim (λ e. absurd (done.says (sym e ∙ zero)))
    (λ made. inr (inr (λ place. ⊎_elim (λ low. made_held held disk.file left disk.writes made done.closes zero place low)
    (λ high. ⊎_elim (λ e. e ∙ done.body place high) (λ wrote. done.writes_body place (left place) high wrote) (leaves place))
    (cases_Bool (nat_lt place 512))))) (whole zero)

tells : (held from : Contents) (disk : Disk) → Middle held from disk.file disk.writes → (left : Contents) → LeavesFile disk left → IsHeaderWhole disk left → Tells held from left
tells held from disk middle left leaves whole = ⊎_elim (λ zero. closed held from disk middle left leaves whole zero) (λ some. inl some) (cases_eq (left 14) 0)

-- Writes

mark_middle : (held from file : Contents) (writes : List Pages) → Middle held from file writes → Middle held from file (in_use ∷ writes)
mark_middle held from file writes (inl untouched) =
    inl (record { is = untouched.is; marks = λ place byte wrote. ⊎_elim (λ here. (eqb-true place 14 here.0, sym here.1)) (untouched.marks place byte) wrote })
mark_middle held from file writes (inr (inl use_it)) =
    inr (inl (record { says = use_it.says; stays = λ byte wrote. ⊎_elim (λ here zero. one_is_not_zero byte here.1 zero) (use_it.stays byte) wrote }))
  where
    one_is_not_zero : (byte : ℕ) → 1 ≡ byte → byte ≡ 0 → ⊥
    one_is_not_zero byte one zero = omega (arith, one, zero)
mark_middle held from file writes (inr (inr done)) =
    inr (inr (record {
      says = done.says;
      body = done.body;
      writes_body = λ place byte high wrote. ⊎_elim (λ here. absurd (low place (eqb-true place 14 here.0) high)) (done.writes_body place byte high) wrote;
      closes = (λ has zero place low. absurd (one_not 1 refl zero), done.closes);
    }))
  where
    low : (place : ℕ) → place ≡ 14 → nat_lt place 512 ≡ false → ⊥
    low place is high = let low_14 : nat_lt 14 512 ≡ false = subst (λ (n : ℕ). nat_lt n 512 ≡ false) is high in cc

    one_not : (n : ℕ) → n ≡ 1 → n ≡ 0 → ⊥
    one_not n one zero = omega (arith, one, zero)

body_in_use : (pages : Pages) (file : Contents) (writes : List Pages) → InUse file writes → InUse file (behind_header pages ∷ writes)
body_in_use pages file writes use_it =
    record { says = use_it.says; stays = λ byte wrote. ⊎_elim (λ here. absurd (let far = (and_parts (pages.has 14) (not (nat_lt 14 512)) here.0).1 in cc)) (use_it.stays byte) wrote }

header_done : (pages : Pages) (held file : Contents) (writes : List Pages) → ((place : ℕ) → pages.has place ≡ true → pages.byte place ≡ held place) → ((place : ℕ) → pages.has place ≡ false → file place ≡ held place) →
    Done held file writes → Done held file (header_of pages ∷ writes)
header_done pages held file writes inside outside done =
    record {
      says = done.says;
      body = done.body;
      writes_body = λ place byte high wrote. ⊎_elim (λ here. absurd (let low = (and_parts (pages.has place) (nat_lt place 512) here.0).1 in cc)) (done.writes_body place byte high) wrote;
      closes = (
        λ has zero place low. pick ((header_of pages).has place) (pages.byte place) (file place) (held place)
            (λ in_it. inside place (in_header (λ (bytes : List ℕ). None) pages place in_it))
            (λ not_in. outside place (⊎_elim (λ out. out) (λ high. absurd (let same = low in cc)) (and_cases (pages.has place) (nat_lt place 512) not_in))),
        done.closes,
      );
    }

closes_moved : (held other file : Contents) (writes : List Pages) → Same held other → Closes held file writes → Closes other file writes
closes_moved held other file [] same closes = tt
closes_moved held other file (pages ∷ writes) same closes = (λ has zero place low. closes.0 has zero place low ∙ same place, closes_moved held other file writes same closes.1)

middle_moved : (held other from file : Contents) (writes : List Pages) → Same held other → Middle held from file writes → Middle other from file writes
middle_moved held other from file writes same (inl untouched) =
    inl (record { is = ⊎_elim (λ is. inl is) (λ is. inr (λ place. is place ∙ same place)) untouched.is; marks = untouched.marks })
middle_moved held other from file writes same (inr (inl use_it)) = inr (inl use_it)
middle_moved held other from file writes same (inr (inr done)) =
    inr (inr (record {
      says = done.says;
      body = λ place high. done.body place high ∙ same place;
      writes_body = λ place byte high wrote. done.writes_body place byte high wrote ∙ same place;
      closes = closes_moved held other file writes same done.closes;
    }))

module _ (reads : List ℕ → Option Pages) (none : reads [] ≡ None) (header : (bytes : List ℕ) (pages : Pages) → reads bytes ≡ Some pages → pages.has 14 ≡ true) where
  -- the file is as it was at rest
  pub record Clean (held from : Contents) (disk : Disk) : Type 0 where
    pub writes : disk.writes ≡ []
    pub file : Same disk.file from
    pub from_held : Same from held

  abbrev pub Either : Pages → Contents → Contents → Option Contents → Disk → Type 0
  Either pages held from coming disk = Clean held from disk ⊎ (Filed reads pages held coming disk × Middle held from disk.file disk.writes)

  abbrev pub Kind : Stage → World → Type 0
  Kind Rest w = Same w.from w.held
  Kind Journal w = Same w.from w.held
  Kind JournalSync w = Same w.from w.held
  Kind Found w = Either w.pages w.held w.from w.coming w.disk
  Kind Mark w = Middle w.held w.from w.disk.file w.disk.writes
  Kind MarkSync w = Middle w.held w.from w.disk.file w.disk.writes × (w.disk.seen 14 ≢ 0)
  Kind Body w = InUse w.disk.file w.disk.writes × (w.disk.seen 14 ≢ 0)
  Kind BodySync w = InUse w.disk.file w.disk.writes × (w.disk.seen 14 ≢ 0)
  Kind Header w = Done w.held w.disk.file w.disk.writes
  Kind HeaderSync w = Done w.held w.disk.file w.disk.writes
  Kind Empty w = Same w.from w.held
  Kind EmptySync w = Same w.from w.held
  Kind Stuck w = Either w.pages w.held w.from w.coming w.disk
  Kind Littered w = Same w.from w.held

  -- a clean file
  clean_of : (held from : Contents) (coming : Option Contents) (disk : Disk) → Loose reads held coming disk → Same from held → Clean held from disk
  clean_of held from coming disk loose same = record { writes = loose.writes; file = λ place. loose.file place ∙ sym (same place); from_held = same }

  clean_left : (held from : Contents) (disk : Disk) → Clean held from disk → (left : Contents) → LeavesFile disk left → Same left from
  clean_left held from disk clean left leaves place =
      ⊎_elim (λ e. e ∙ clean.file place) (λ wrote. absurd (nothing disk.writes place (left place) clean.writes wrote)) (leaves place)

  either_of : (s : Stage) (w : World) → Inv reads s w → Kind s w → Either w.pages w.held w.from w.coming (begun (step_of s) w.pages w.bytes w.disk)
  either_of Rest w inv kind = inl (record { writes = inv.writes; file = λ place. inv.file place ∙ sym (kind place); from_held = kind })
  either_of Journal w inv kind = inl (record { writes = inv.0.writes; file = λ place. inv.0.file place ∙ sym (kind place); from_held = kind })
  either_of JournalSync w inv kind = inl (clean_of w.held w.from w.coming w.disk inv.0 kind)
  either_of Found w inv kind = kind
  either_of Mark w inv kind = inr (filed_write reads w.pages in_use w.held w.coming w.disk inv (in_mark reads none header w.pages w.held w.coming w.disk inv), mark_middle w.held w.from w.disk.file w.disk.writes kind)
  either_of MarkSync w inv kind = inr (inv, kind.0)
  either_of Body w inv kind = inr (filed_write reads w.pages (behind_header w.pages) w.held w.coming w.disk inv (in_body reads w.pages), inr (inl (body_in_use w.pages w.disk.file w.disk.writes kind.0)))
  either_of BodySync w inv kind = inr (inv.0, inr (inl kind.0))
  either_of Header w inv kind =
      inr (filed_write reads w.pages (header_of w.pages) w.held w.coming w.disk inv.0 (in_header reads w.pages), inr (inr (header_done w.pages w.held w.disk.file w.disk.writes inv.0.inside inv.0.outside kind)))
  either_of HeaderSync w inv kind = inr (inv.0, inr (inr kind))
  either_of Empty w inv kind = inl (record { writes = inv.writes; file = λ place. inv.file place ∙ sym (kind place); from_held = kind })
  either_of EmptySync w inv kind = inl (clean_of w.held w.from w.coming w.disk inv.0 kind)
  either_of Stuck w inv kind = kind
  either_of Littered w inv kind = inl (clean_of w.held w.from w.coming w.disk inv kind)

  either_tells : (pages : Pages) (held from : Contents) (coming : Option Contents) (disk : Disk) → Either pages held from coming disk → (left : Contents) → LeavesFile disk left → IsHeaderWhole disk left → Tells held from left
  either_tells pages held from coming disk (inl clean) left leaves whole = inr (inl (clean_left held from disk clean left leaves))
  either_tells pages held from coming disk (inr filed) left leaves whole = tells held from disk filed.1 left leaves whole

  pub told : (w : World) → Inv reads w.stage w → Kind w.stage w → (left : Contents) → LeavesFile (under_way w) left → IsHeaderWhole (under_way w) left → IsTold w left
  told w inv kind left leaves whole = either_tells w.pages w.held w.from w.coming (under_way w) (either_of w.stage w inv kind) left leaves whole

  -- Steps

  refused_either : (pages : Pages) (held from : Contents) (coming : Option Contents) (disk : Disk) (left : Contents) → Either pages held from coming disk → LeavesFile disk left → Either pages held from coming (record disk { seen = left })
  refused_either pages held from coming disk left (inl clean) leaves = inl (record { writes = clean.writes; file = clean.file; from_held = clean.from_held })
  refused_either pages held from coming disk left (inr filed) leaves = inr (filed_refused reads none header pages held coming disk left filed.0 leaves, filed.1)

  refused_kind : (s : Stage) (w : World) → Inv reads s w → Kind s w → (left : Contents) → LeavesFile (begun (step_of s) w.pages w.bytes w.disk) left →
      Kind (after s false) (record w { stage = after s false; disk = record (begun (step_of s) w.pages w.bytes w.disk) { seen = left } })
  refused_kind Rest w inv kind left leaves = kind
  refused_kind Journal w inv kind left leaves = kind
  refused_kind JournalSync w inv kind left leaves = kind
  refused_kind Found w inv kind left leaves = refused_either w.pages w.held w.from w.coming w.disk left kind leaves
  refused_kind Mark w inv kind left leaves = refused_either w.pages w.held w.from w.coming (begun_write in_use w.disk) left (either_of Mark w inv kind) leaves
  refused_kind MarkSync w inv kind left leaves = refused_either w.pages w.held w.from w.coming w.disk left (either_of MarkSync w inv kind) leaves
  refused_kind Body w inv kind left leaves = refused_either w.pages w.held w.from w.coming (begun_write (behind_header w.pages) w.disk) left (either_of Body w inv kind) leaves
  refused_kind BodySync w inv kind left leaves = refused_either w.pages w.held w.from w.coming w.disk left (either_of BodySync w inv kind) leaves
  refused_kind Header w inv kind left leaves = refused_either w.pages w.held w.from w.coming (begun_write (header_of w.pages) w.disk) left (either_of Header w inv kind) leaves
  refused_kind HeaderSync w inv kind left leaves = refused_either w.pages w.held w.from w.coming w.disk left (either_of HeaderSync w inv kind) leaves
  refused_kind Empty w inv kind left leaves = kind
  refused_kind EmptySync w inv kind left leaves = kind
  refused_kind Stuck w inv kind left leaves = refused_either w.pages w.held w.from w.coming w.disk left kind leaves
  refused_kind Littered w inv kind left leaves = kind

  -- a journal that was found is synced
  found_middle : (pages : Pages) (held from : Contents) (coming : Option Contents) (disk : Disk) → Either pages held from coming disk → Middle (with_pages pages held) from disk.file disk.writes
  found_middle pages held from coming disk (inl clean) = inl (record { is = inl clean.file; marks = λ place byte wrote. absurd (nothing disk.writes place byte clean.writes wrote) })
  found_middle pages held from coming disk (inr filed) =
      let same = filed_is reads pages held held filed.0.inside (λ place not_in. refl) in
      middle_moved held (with_pages pages held) from disk.file disk.writes (λ place. sym (same place)) filed.1

  body_stays : (pages : Pages) (disk : Disk) → disk.seen 14 ≢ 0 → with_pages (behind_header pages) disk.seen 14 ≢ 0
  body_stays pages disk says zero =
      says (sym (left_of ((behind_header pages).has 14) (pages.byte 14) (disk.seen 14) (and_right (pages.has 14) (not (nat_lt 14 512)) refl)) ∙ zero)

  carried_kind : (s : Stage) (w : World) → Inv reads s w → Kind s w →
      Kind (after s true) (record w { stage = after s true; held = held_after s w.pages w.held; from = from_after s w.held w.from; coming = coming_after s w.coming; disk = carried (step_of s) w.pages w.bytes w.disk })
  carried_kind Rest w inv kind = kind
  carried_kind Journal w inv kind = kind
  carried_kind JournalSync w inv kind = found_middle w.pages w.held w.from w.coming w.disk (inl (clean_of w.held w.from w.coming w.disk inv.0 kind))
  carried_kind Found w inv kind = found_middle w.pages w.held w.from w.coming w.disk kind
  carried_kind Mark w inv kind = (mark_middle w.held w.from w.disk.file w.disk.writes kind, λ zero. omega (arith, zero))
  carried_kind MarkSync w inv kind = (record { says = kind.1; stays = λ byte wrote. absurd wrote }, kind.1)
  carried_kind Body w inv kind = (body_in_use w.pages w.disk.file w.disk.writes kind.0, body_stays w.pages w.disk kind.1)
  carried_kind BodySync w inv kind = record { says = kind.1; body = inv.1; writes_body = λ place byte high wrote. absurd wrote; closes = tt }
  carried_kind Header w inv kind = header_done w.pages w.held w.disk.file w.disk.writes inv.0.inside inv.0.outside kind
  carried_kind HeaderSync w inv kind = λ place. refl
  carried_kind Empty w inv kind = kind
  carried_kind EmptySync w inv kind = kind
  carried_kind Stuck w inv kind = kind
  carried_kind Littered w inv kind = kind

  resumed_kind : (s : Stage) (w : World) → Kind s w → Kind (resumed s) (record w { stage = resumed s })
  resumed_kind Rest w kind = kind
  resumed_kind Journal w kind = kind
  resumed_kind JournalSync w kind = kind
  resumed_kind Found w kind = kind
  resumed_kind Mark w kind = kind
  resumed_kind MarkSync w kind = kind
  resumed_kind Body w kind = kind
  resumed_kind BodySync w kind = kind
  resumed_kind Header w kind = kind
  resumed_kind HeaderSync w kind = kind
  resumed_kind Empty w kind = kind
  resumed_kind EmptySync w kind = kind
  resumed_kind Stuck w kind = kind
  resumed_kind Littered w kind = kind

  -- Restarts

  abbrev Restarted : World → Disk → Option Pages → Type 0
  Restarted w disk read = Kind (opened (is_some read)) (record w { stage = opened (is_some read); pages = found read w.pages; disk = disk })

  clean_opens : (w : World) (disk : Disk) → Clean w.held w.from disk → (read : Option Pages) → Restarted w disk read
  clean_opens w disk clean None = clean.from_held
  clean_opens w disk clean (Some pages) = inl clean

  filed_restarts : (w : World) (pages : Pages) (disk : Disk) → Filed reads pages w.held w.coming disk → Middle w.held w.from disk.file disk.writes → (read : Option Pages) → Some pages ≡ read → Restarted w disk read
  filed_restarts w pages disk filed middle None e = cc
  filed_restarts w pages disk filed middle (Some other) e = subst (λ (read : Option Pages). Restarted w disk read) e (inr (filed, middle))

  middle_fallen : (held from left : Contents) → Tells held from left → Middle held from left []
  middle_fallen held from left (inl says) = inr (inl (record { says = says; stays = λ byte wrote. absurd wrote }))
  middle_fallen held from left (inr is) = inl (record { is = is; marks = λ place byte wrote. absurd wrote })

  fallen_kind : (w : World) (disk : Disk) → Either w.pages w.held w.from w.coming disk → (left : Contents) (bytes : List ℕ) → LeavesFile disk left → LeavesJournal reads disk bytes → IsHeaderWhole disk left →
      Restarted w (fallen left bytes) (reads bytes)
  fallen_kind w disk (inl clean) left bytes left_file left_journal whole =
      clean_opens w (fallen left bytes) (record { writes = refl; file = clean_left w.held w.from disk clean left left_file; from_held = clean.from_held }) (reads bytes)
  fallen_kind w disk (inr filed) left bytes left_file left_journal whole =
      filed_restarts w w.pages (fallen left bytes) (filed_fallen reads w.pages w.held w.coming disk filed.0 left bytes left_file left_journal)
      (middle_fallen w.held w.from left (tells w.held w.from disk filed.1 left left_file whole)) (reads bytes) (sym (filed_reads reads w.pages w.held w.coming disk filed.0 bytes left_journal))

  died_kind : (w : World) (disk : Disk) → Either w.pages w.held w.from w.coming disk → (left : Contents) (bytes : List ℕ) → LeavesFile disk left → LeavesJournal reads disk bytes →
      Restarted w (abandoned left bytes disk) (reads bytes)
  died_kind w disk (inl clean) left bytes left_file left_journal =
      clean_opens w (abandoned left bytes disk) (record { writes = clean.writes; file = clean.file; from_held = clean.from_held }) (reads bytes)
  died_kind w disk (inr filed) left bytes left_file left_journal =
      filed_restarts w w.pages (abandoned left bytes disk) (filed_died reads w.pages w.held w.coming disk filed.0 left bytes left_file left_journal) filed.1
      (reads bytes) (sym (filed_reads reads w.pages w.held w.coming disk filed.0 bytes left_journal))

  -- Runs

  kind_kept : (w : World) → Inv reads w.stage w → Kind w.stage w → (event : Event) → CanHappen reads w event → HeaderStays reads w event → Kind (happens reads w event).stage (happens reads w event)
  kind_kept w inv kind Carried can stays = carried_kind w.stage w inv kind
  kind_kept w inv kind (Refused left) can stays = refused_kind w.stage w inv kind left can
  kind_kept w inv kind (Fallen left bytes) can stays = fallen_kind w (under_way w) (either_of w.stage w inv kind) left bytes can.0 can.1 stays
  kind_kept w inv kind (Died left bytes) can stays = died_kind w (under_way w) (either_of w.stage w inv kind) left bytes can.0 can.1
  kind_kept w inv kind (Begins pages bytes) can stays = subst (λ (s : Stage). Kind s w) can.0 kind
  kind_kept w inv kind Resumes can stays = resumed_kind w.stage w kind

  pub kinds_kept : (w : World) → Inv reads w.stage w → Kind w.stage w → (events : List Event) → IsRun reads w events → HeadersStay reads w events → Kind (behind reads w events).stage (behind reads w events)
  kinds_kept w inv kind [] run stay = kind
  kinds_kept w inv kind (event ∷ events) run stay =
      kinds_kept (happens reads w event) (keeps reads none header w inv event run.0) (kind_kept w inv kind event run.0 stay.0) events run.1 stay.1
