-- What holds at each stage of a run, and that each event keeps it.
use Rattle.std.proofs.Common.{◌≡◌, ◌⊎◌, inl, inr, ⊎_elim, ℕ, Bool, true, false, List, [], ◌∷◌, Option, Some, None, refl, sym, ◌∙◌, ap, subst, arith}
use Rattle.std.specs.Prelude.{if◌then◌else◌, ◌&&◌, ◌==◌, not, nat_lt, is_some}
use Rattle.std.proofs.lemmas.Bool.Decides.{nat_tests}
use Rattle.cola_journal.specs.declared.stage.Stage.{Stage}
use Rattle.cola_journal.specs.declared.stage.Stage.TheVariants.{Rest, Journal, JournalSync, Found, Mark, MarkSync, Body, BodySync, Header, HeaderSync, Empty, EmptySync, Stuck, Littered}
use Rattle.cola_journal.specs.Stages.{step_of, after, resumed, opened}
use Rattle.cola_journal.specs.Disk.{Contents, Same, Pages, Disk, with_pages, Wrote, LeavesFile, Among, LeavesJournal, in_use, header_of, behind_header, begun_write, begun_journal, begun, written, last_journal, carried, fallen, journals_read, abandoned}
use Rattle.cola_journal.specs.Runs.{World, Event, Carried, Refused, Fallen, Died, Begins, Resumes, under_way, held_after, from_after, coming_after, found, recovered, IsComing, Stands, CanHappen, happens, IsRun, behind, IsSafe, IsSettled, begin_with}

-- a choice
pub pick : (b : Bool) (x y z : ℕ) → (b ≡ true → x ≡ z) → (b ≡ false → y ≡ z) → (if b then x else y) ≡ z
pick true x y z in_it not_in = in_it refl
pick false x y z in_it not_in = not_in refl

pub choose : (b : Bool) (x y z : ℕ) → y ≡ z → (if b then x else y) ≡ (if b then x else z)
choose true x y z e = refl
choose false x y z e = e

pub taken : (b : Bool) (x y : ℕ) → b ≡ true → (if b then x else y) ≡ x
taken true x y e = refl
taken false x y e = cc

pub left_of : (b : Bool) (x y : ℕ) → b ≡ false → (if b then x else y) ≡ y
left_of true x y e = cc
left_of false x y e = refl

pub both_first : (a b : Bool) → (a && b) ≡ true → a ≡ true
both_first true b e = refl
both_first false b e = cc

pub both_false : (a b : Bool) → a ≡ false → (a && b) ≡ false
both_false true b e = cc
both_false false b e = refl

pub both_true : (a b : Bool) → a ≡ true → b ≡ true → (a && b) ≡ true
both_true true b e f = f
both_true false b e f = cc

pub same_with : (pages : Pages) (file other : Contents) → Same file other → Same (with_pages pages file) (with_pages pages other)
same_with pages file other same = λ place. choose (pages.has place) (pages.byte place) (file place) (other place) (same place)

abbrev pub Is : Contents → Option Contents → Contents → Type 0
Is held coming file = Same file held ⊎ IsComing coming file

pub moved_coming : (coming : Option Contents) (file other : Contents) → Same file other → IsComing coming other → IsComing coming file
moved_coming None file other same is = absurd is
moved_coming (Some new) file other same is = λ place. same place ∙ is place

pub moved : (held : Contents) (coming : Option Contents) (file other : Contents) → Same file other → Is held coming other → Is held coming file
moved held coming file other same (inl is) = inl (λ place. same place ∙ is place)
moved held coming file other same (inr is) = inr (moved_coming coming file other same is)

module _ (reads : List ℕ → Option Pages) where
  abbrev pub Fits : Contents → Option Contents → List ℕ → Type 0
  Fits held coming bytes = (pages : Pages) → reads bytes ≡ Some pages → Is held coming (with_pages pages held)

  abbrev pub AllFit : Contents → Option Contents → List (List ℕ) → Type 0
  AllFit held coming [] = Unit {0}
  AllFit held coming (bytes ∷ others) = Fits held coming bytes × AllFit held coming others

  -- the file is what holds, and each journal that may be left does no harm
  pub record Loose (held : Contents) (coming : Option Contents) (disk : Disk) : Type 0 where
    pub writes : disk.writes ≡ []
    pub file : Same disk.file held
    pub seen : Same disk.seen held
    pub journal : Fits held coming disk.journal
    pub journals : AllFit held coming disk.journals

  -- the journal on the disk is whole, and the file is what holds but for its pages
  pub record Filed (pages : Pages) (held : Contents) (coming : Option Contents) (disk : Disk) : Type 0 where
    pub whole : reads disk.journal ≡ Some pages
    pub quiet : disk.journals ≡ []
    pub none_comes : coming ≡ None
    pub inside : (place : ℕ) → pages.has place ≡ true → pages.byte place ≡ held place
    pub outside : (place : ℕ) → pages.has place ≡ false → disk.file place ≡ held place
    pub seen : (place : ℕ) → pages.has place ≡ false → disk.seen place ≡ held place
    pub writes : (place byte : ℕ) → Wrote disk.writes place byte → pages.has place ≡ true

  abbrev pub Way : Pages → Contents → Option Contents → Disk → Type 0
  Way pages held coming disk = Loose held coming disk ⊎ Filed pages held coming disk

  pub record Finds (pages : Pages) (held : Contents) (coming : Option Contents) (disk : Disk) : Type 0 where
    pub whole : reads (last_journal disk.journal disk.journals) ≡ Some pages
    pub way : Way pages held coming disk

  pub record Comes (pages : Pages) (bytes : List ℕ) (held : Contents) (coming : Option Contents) : Type 0 where
    pub whole : reads bytes ≡ Some pages
    pub is : coming ≡ Some (with_pages pages held)

  abbrev pub SeenBehind : Contents → Disk → Type 0
  SeenBehind held disk = (place : ℕ) → nat_lt place 512 ≡ false → disk.seen place ≡ held place

  abbrev pub Inv : Stage → World → Type 0
  Inv Rest w = IsSettled reads w
  Inv Journal w = Loose w.held w.coming w.disk × Comes w.pages w.bytes w.held w.coming
  Inv JournalSync w = Loose w.held w.coming w.disk × Comes w.pages w.bytes w.held w.coming × (last_journal w.disk.journal w.disk.journals ≡ w.bytes)
  Inv Found w = Finds w.pages w.held w.coming w.disk
  Inv Mark w = Filed w.pages w.held w.coming w.disk
  Inv MarkSync w = Filed w.pages w.held w.coming w.disk
  Inv Body w = Filed w.pages w.held w.coming w.disk
  Inv BodySync w = Filed w.pages w.held w.coming w.disk × SeenBehind w.held w.disk
  Inv Header w = Filed w.pages w.held w.coming w.disk × SeenBehind w.held w.disk
  Inv HeaderSync w = Filed w.pages w.held w.coming w.disk × Same w.disk.seen w.held
  Inv Empty w = Loose w.held w.coming w.disk
  Inv EmptySync w = Loose w.held w.coming w.disk × (last_journal w.disk.journal w.disk.journals ≡ [])
  Inv Stuck w = Finds w.pages w.held w.coming w.disk
  Inv Littered w = Loose w.held w.coming w.disk

  -- Outcomes

  pub loose_file : (held : Contents) (coming : Option Contents) (disk : Disk) → Loose held coming disk → (file : Contents) → LeavesFile disk file → Same file held
  loose_file held coming disk loose file leaves =
      λ place. ⊎_elim (λ e. e ∙ loose.file place) (λ wrote. absurd (subst (λ (writes : List Pages). Wrote writes place (file place)) loose.writes wrote)) (leaves place)

  pub among_fits : (held : Contents) (coming : Option Contents) (others : List (List ℕ)) (bytes : List ℕ) → AllFit held coming others → Among bytes others → Fits held coming bytes
  among_fits held coming [] bytes all among = absurd among
  among_fits held coming (other ∷ others) bytes all (inl e) = λ pages whole. all.0 pages (subst (λ (l : List ℕ). reads l ≡ Some pages) e whole)
  among_fits held coming (other ∷ others) bytes all (inr rest) = among_fits held coming others bytes all.1 rest

  pub loose_fits : (held : Contents) (coming : Option Contents) (disk : Disk) → Loose held coming disk → (bytes : List ℕ) → LeavesJournal reads disk bytes → Fits held coming bytes
  loose_fits held coming disk loose bytes leaves =
      λ pages whole. ⊎_elim (λ e. loose.journal pages (subst (λ (l : List ℕ). reads l ≡ Some pages) e whole))
      (λ among. among_fits held coming disk.journals bytes loose.journals among pages whole) (leaves.unmixed pages whole)

  pub loose_stands : (held : Contents) (coming : Option Contents) (disk : Disk) → Loose held coming disk → (file : Contents) (bytes : List ℕ) → LeavesFile disk file → LeavesJournal reads disk bytes →
      (read : Option Pages) → reads bytes ≡ read → Is held coming (recovered read file)
  loose_stands held coming disk loose file bytes left_file left_journal None e = inl (loose_file held coming disk loose file left_file)
  loose_stands held coming disk loose file bytes left_file left_journal (Some pages) e =
      moved held coming (with_pages pages file) (with_pages pages held) (same_with pages file held (loose_file held coming disk loose file left_file))
      (loose_fits held coming disk loose bytes left_journal pages e)

  pub filed_file : (pages : Pages) (held : Contents) (coming : Option Contents) (disk : Disk) → Filed pages held coming disk → (file : Contents) → LeavesFile disk file →
      (place : ℕ) → pages.has place ≡ false → file place ≡ held place
  filed_file pages held coming disk filed file leaves place not_in =
      ⊎_elim (λ e. e ∙ filed.outside place not_in) (λ wrote. let in_it : pages.has place ≡ true = filed.writes place (file place) wrote in cc) (leaves place)

  pub filed_is : (pages : Pages) (held file : Contents) → ((place : ℕ) → pages.has place ≡ true → pages.byte place ≡ held place) → ((place : ℕ) → pages.has place ≡ false → file place ≡ held place) →
      Same (with_pages pages file) held
  filed_is pages held file inside outside = λ place. pick (pages.has place) (pages.byte place) (file place) (held place) (inside place) (outside place)

  pub filed_reads : (pages : Pages) (held : Contents) (coming : Option Contents) (disk : Disk) → Filed pages held coming disk → (bytes : List ℕ) → LeavesJournal reads disk bytes → reads bytes ≡ Some pages
  filed_reads pages held coming disk filed bytes leaves = ap reads (leaves.quiet filed.quiet) ∙ filed.whole

  pub filed_stands : (pages : Pages) (held : Contents) (coming : Option Contents) (disk : Disk) → Filed pages held coming disk → (file : Contents) (bytes : List ℕ) → LeavesFile disk file → LeavesJournal reads disk bytes →
      Is held coming (recovered (reads bytes) file)
  filed_stands pages held coming disk filed file bytes left_file left_journal =
      subst (λ (read : Option Pages). Is held coming (recovered read file)) (sym (filed_reads pages held coming disk filed bytes left_journal))
      (inl (filed_is pages held file filed.inside (filed_file pages held coming disk filed file left_file)))

  pub way_stands : (pages : Pages) (held : Contents) (coming : Option Contents) (disk : Disk) → Way pages held coming disk → (file : Contents) (bytes : List ℕ) → LeavesFile disk file → LeavesJournal reads disk bytes →
      Is held coming (recovered (reads bytes) file)
  way_stands pages held coming disk (inl loose) file bytes left_file left_journal = loose_stands held coming disk loose file bytes left_file left_journal (reads bytes) refl
  way_stands pages held coming disk (inr filed) file bytes left_file left_journal = filed_stands pages held coming disk filed file bytes left_file left_journal

  -- Restarts

  abbrev pub Restarts : World → Disk → Option Pages → Type 0
  Restarts w disk read = Inv (opened (is_some read)) (record w { stage = opened (is_some read); pages = found read w.pages; disk = disk })

  pub read_fit : (held : Contents) (coming : Option Contents) (bytes : List ℕ) (others : List (List ℕ)) → Fits held coming bytes → AllFit held coming others → AllFit held coming (journals_read bytes others)
  read_fit held coming bytes [] fits all = tt
  read_fit held coming bytes (other ∷ others) fits all = (fits, all)

  pub last_read : (journal : List ℕ) (others : List (List ℕ)) (bytes : List ℕ) → (others ≡ [] → bytes ≡ journal) → last_journal journal (journals_read bytes others) ≡ bytes
  last_read journal [] bytes quiet = sym (quiet refl)
  last_read journal (other ∷ others) bytes quiet = refl

  pub loose_fallen : (held : Contents) (coming : Option Contents) (disk : Disk) → Loose held coming disk → (file : Contents) (bytes : List ℕ) → LeavesFile disk file → LeavesJournal reads disk bytes →
      Loose held coming (fallen file bytes)
  loose_fallen held coming disk loose file bytes left_file left_journal =
      let same = loose_file held coming disk loose file left_file in
      record { writes = refl; file = same; seen = same; journal = loose_fits held coming disk loose bytes left_journal; journals = tt }

  pub loose_died : (held : Contents) (coming : Option Contents) (disk : Disk) → Loose held coming disk → (file : Contents) (bytes : List ℕ) → LeavesFile disk file → LeavesJournal reads disk bytes →
      Loose held coming (abandoned file bytes disk)
  loose_died held coming disk loose file bytes left_file left_journal =
      record {
        writes = loose.writes;
        file = loose.file;
        seen = loose_file held coming disk loose file left_file;
        journal = loose.journal;
        journals = read_fit held coming bytes disk.journals (loose_fits held coming disk loose bytes left_journal) loose.journals;
      }

  -- an opening of a file that is what holds
  pub loose_opens : (w : World) (disk : Disk) (bytes : List ℕ) → Loose w.held w.coming disk → reads (last_journal disk.journal disk.journals) ≡ reads bytes →
      (read : Option Pages) → reads bytes ≡ read → Restarts w disk read
  loose_opens w disk bytes loose last None e = loose
  loose_opens w disk bytes loose last (Some pages) e = record { whole = last ∙ e; way = inl loose }

  pub filed_opens : (w : World) (pages : Pages) (disk : Disk) (bytes : List ℕ) → Filed pages w.held w.coming disk → reads (last_journal disk.journal disk.journals) ≡ Some pages →
      (read : Option Pages) → Some pages ≡ read → Restarts w disk read
  filed_opens w pages disk bytes filed last None e = cc
  filed_opens w pages disk bytes filed last (Some other) e =
      subst (λ (read : Option Pages). Restarts w disk read) e (record { whole = last; way = inr filed })

  pub filed_fallen : (pages : Pages) (held : Contents) (coming : Option Contents) (disk : Disk) → Filed pages held coming disk → (file : Contents) (bytes : List ℕ) → LeavesFile disk file → LeavesJournal reads disk bytes →
      Filed pages held coming (fallen file bytes)
  filed_fallen pages held coming disk filed file bytes left_file left_journal =
      let outside = filed_file pages held coming disk filed file left_file in
      record {
        whole = filed_reads pages held coming disk filed bytes left_journal;
        quiet = refl;
        none_comes = filed.none_comes;
        inside = filed.inside;
        outside = outside;
        seen = outside;
        writes = λ place byte wrote. absurd wrote;
      }

  pub filed_died : (pages : Pages) (held : Contents) (coming : Option Contents) (disk : Disk) → Filed pages held coming disk → (file : Contents) (bytes : List ℕ) → LeavesFile disk file → LeavesJournal reads disk bytes →
      Filed pages held coming (abandoned file bytes disk)
  filed_died pages held coming disk filed file bytes left_file left_journal =
      record {
        whole = filed.whole;
        quiet = ap (journals_read bytes) filed.quiet;
        none_comes = filed.none_comes;
        inside = filed.inside;
        outside = filed.outside;
        seen = filed_file pages held coming disk filed file left_file;
        writes = filed.writes;
      }

  pub way_fallen : (w : World) (pages : Pages) (disk : Disk) → Way pages w.held w.coming disk → (file : Contents) (bytes : List ℕ) → LeavesFile disk file → LeavesJournal reads disk bytes →
      Restarts w (fallen file bytes) (reads bytes)
  way_fallen w pages disk (inl loose) file bytes left_file left_journal =
      loose_opens w (fallen file bytes) bytes (loose_fallen w.held w.coming disk loose file bytes left_file left_journal) refl (reads bytes) refl
  way_fallen w pages disk (inr filed) file bytes left_file left_journal =
      let whole = filed_reads pages w.held w.coming disk filed bytes left_journal in
      filed_opens w pages (fallen file bytes) bytes (filed_fallen pages w.held w.coming disk filed file bytes left_file left_journal) whole (reads bytes) (sym whole)

  pub way_died : (w : World) (pages : Pages) (disk : Disk) → Way pages w.held w.coming disk → (file : Contents) (bytes : List ℕ) → LeavesFile disk file → LeavesJournal reads disk bytes →
      Restarts w (abandoned file bytes disk) (reads bytes)
  way_died w pages disk (inl loose) file bytes left_file left_journal =
      loose_opens w (abandoned file bytes disk) bytes (loose_died w.held w.coming disk loose file bytes left_file left_journal)
      (ap reads (last_read disk.journal disk.journals bytes left_journal.quiet)) (reads bytes) refl
  way_died w pages disk (inr filed) file bytes left_file left_journal =
      let whole = filed_reads pages w.held w.coming disk filed bytes left_journal in
      filed_opens w pages (abandoned file bytes disk) bytes (filed_died pages w.held w.coming disk filed file bytes left_file left_journal)
      (ap reads (last_read disk.journal disk.journals bytes left_journal.quiet) ∙ whole) (reads bytes) (sym whole)

  -- While a step is under way

  pub loose_journal : (held : Contents) (coming : Option Contents) (disk : Disk) (bytes : List ℕ) → Loose held coming disk → Fits held coming bytes → Loose held coming (begun_journal bytes disk)
  loose_journal held coming disk bytes loose fits =
      record { writes = loose.writes; file = loose.file; seen = loose.seen; journal = loose.journal; journals = (fits, loose.journals) }

  pub comes_fits : (pages : Pages) (bytes : List ℕ) (held : Contents) (coming : Option Contents) → Comes pages bytes held coming → Fits held coming bytes
  comes_fits pages bytes held coming comes =
      λ read whole. let same : read ≡ pages = cc (whole, comes.whole) in
      inr (subst (λ (c : Option Contents). IsComing c (with_pages read held)) (sym comes.is) (λ place. ap (λ (p : Pages). with_pages p held place) same))

  pub settled_loose : (w : World) → IsSettled reads w → Loose w.held w.coming w.disk
  settled_loose w settled =
      record {
        writes = settled.writes;
        file = settled.file;
        seen = settled.seen;
        journal = λ pages whole. absurd (let none = settled.journal in cc);
        journals = subst (λ (others : List (List ℕ)). AllFit w.held w.coming others) (sym settled.journals) tt;
      }

  pub filed_write : (pages some : Pages) (held : Contents) (coming : Option Contents) (disk : Disk) → Filed pages held coming disk → ((place : ℕ) → some.has place ≡ true → pages.has place ≡ true) →
      Filed pages held coming (begun_write some disk)
  filed_write pages some held coming disk filed within =
      record {
        whole = filed.whole;
        quiet = filed.quiet;
        none_comes = filed.none_comes;
        inside = filed.inside;
        outside = filed.outside;
        seen = filed.seen;
        writes = λ place byte wrote. ⊎_elim (λ here. within place here.0) (filed.writes place byte) wrote;
      }

  pub in_header : (pages : Pages) (place : ℕ) → (header_of pages).has place ≡ true → pages.has place ≡ true
  in_header pages place in_it = both_first (pages.has place) (nat_lt place 512) in_it

  pub in_body : (pages : Pages) (place : ℕ) → (behind_header pages).has place ≡ true → pages.has place ≡ true
  in_body pages place in_it = both_first (pages.has place) (not (nat_lt place 512)) in_it

  module _ (none : reads [] ≡ None) (header : (bytes : List ℕ) (pages : Pages) → reads bytes ≡ Some pages → pages.has 14 ≡ true) where
    pub nothing_fits : (held : Contents) (coming : Option Contents) → Fits held coming []
    nothing_fits held coming = λ pages whole. absurd (cc (none, whole))

    pub at_14 : (pages : Pages) (place : ℕ) → pages.has 14 ≡ true → (place == 14) ≡ true → pages.has place ≡ true
    at_14 pages place has is = let same : place ≡ 14 = grind (arith, nat_tests) in ap pages.has same ∙ has

    pub in_mark : (pages : Pages) (held : Contents) (coming : Option Contents) (disk : Disk) → Filed pages held coming disk → (place : ℕ) → in_use.has place ≡ true → pages.has place ≡ true
    in_mark pages held coming disk filed place in_it = at_14 pages place (header disk.journal pages filed.whole) in_it

    pub way_of : (s : Stage) (w : World) → Inv s w → Way w.pages w.held w.coming (begun (step_of s) w.pages w.bytes w.disk)
    way_of Rest w inv = inl (settled_loose w inv)
    way_of Journal w inv = inl (loose_journal w.held w.coming w.disk w.bytes inv.0 (comes_fits w.pages w.bytes w.held w.coming inv.1))
    way_of JournalSync w inv = inl inv.0
    way_of Found w inv = inv.way
    way_of Mark w inv = inr (filed_write w.pages in_use w.held w.coming w.disk inv (in_mark w.pages w.held w.coming w.disk inv))
    way_of MarkSync w inv = inr inv
    way_of Body w inv = inr (filed_write w.pages (behind_header w.pages) w.held w.coming w.disk inv (in_body w.pages))
    way_of BodySync w inv = inr inv.0
    way_of Header w inv = inr (filed_write w.pages (header_of w.pages) w.held w.coming w.disk inv.0 (in_header w.pages))
    way_of HeaderSync w inv = inr inv.0
    way_of Empty w inv = inl (loose_journal w.held w.coming w.disk [] inv (nothing_fits w.held w.coming))
    way_of EmptySync w inv = inl inv.0
    way_of Stuck w inv = inv.way
    way_of Littered w inv = inl inv

    pub safe : (w : World) → Inv w.stage w → IsSafe reads w
    safe w inv file bytes left_file left_journal = way_stands w.pages w.held w.coming (under_way w) (way_of w.stage w inv) file bytes left_file left_journal

    -- A step is refused

    pub loose_refused : (held : Contents) (coming : Option Contents) (disk : Disk) (file : Contents) → Loose held coming disk → LeavesFile disk file → Loose held coming (record disk { seen = file })
    loose_refused held coming disk file loose leaves =
        record { writes = loose.writes; file = loose.file; seen = loose_file held coming disk loose file leaves; journal = loose.journal; journals = loose.journals }

    pub filed_refused : (pages : Pages) (held : Contents) (coming : Option Contents) (disk : Disk) (file : Contents) → Filed pages held coming disk → LeavesFile disk file → Filed pages held coming (record disk { seen = file })
    filed_refused pages held coming disk file filed leaves =
        record {
          whole = filed.whole;
          quiet = filed.quiet;
          none_comes = filed.none_comes;
          inside = filed.inside;
          outside = filed.outside;
          seen = filed_file pages held coming disk filed file leaves;
          writes = filed.writes;
        }

    pub way_refused : (pages : Pages) (held : Contents) (coming : Option Contents) (disk : Disk) (file : Contents) → Way pages held coming disk → LeavesFile disk file → Way pages held coming (record disk { seen = file })
    way_refused pages held coming disk file (inl loose) leaves = inl (loose_refused held coming disk file loose leaves)
    way_refused pages held coming disk file (inr filed) leaves = inr (filed_refused pages held coming disk file filed leaves)

    pub filed_last : (pages : Pages) (held : Contents) (coming : Option Contents) (disk : Disk) → Filed pages held coming disk → reads (last_journal disk.journal disk.journals) ≡ Some pages
    filed_last pages held coming disk filed = ap (λ (others : List (List ℕ)). reads (last_journal disk.journal others)) filed.quiet ∙ filed.whole

    pub stuck : (pages : Pages) (held : Contents) (coming : Option Contents) (disk : Disk) (file : Contents) → Filed pages held coming disk → LeavesFile disk file → Finds pages held coming (record disk { seen = file })
    stuck pages held coming disk file filed leaves = record { whole = filed_last pages held coming disk filed; way = inr (filed_refused pages held coming disk file filed leaves) }

    pub refused : (s : Stage) (w : World) → Inv s w → (file : Contents) → LeavesFile (begun (step_of s) w.pages w.bytes w.disk) file →
        Inv (after s false) (record w { stage = after s false; disk = record (begun (step_of s) w.pages w.bytes w.disk) { seen = file } })
    refused Rest w inv file leaves =
        record { file = inv.file; seen = loose_file w.held w.coming w.disk (settled_loose w inv) file leaves; writes = inv.writes; journal = inv.journal; journals = inv.journals; coming = inv.coming }
    refused Journal w inv file leaves =
        loose_refused w.held w.coming (begun_journal w.bytes w.disk) file (loose_journal w.held w.coming w.disk w.bytes inv.0 (comes_fits w.pages w.bytes w.held w.coming inv.1)) leaves
    refused JournalSync w inv file leaves = loose_refused w.held w.coming w.disk file inv.0 leaves
    refused Found w inv file leaves = record { whole = inv.whole; way = way_refused w.pages w.held w.coming w.disk file inv.way leaves }
    refused Mark w inv file leaves =
        stuck w.pages w.held w.coming (begun_write in_use w.disk) file (filed_write w.pages in_use w.held w.coming w.disk inv (in_mark w.pages w.held w.coming w.disk inv)) leaves
    refused MarkSync w inv file leaves = stuck w.pages w.held w.coming w.disk file inv leaves
    refused Body w inv file leaves =
        stuck w.pages w.held w.coming (begun_write (behind_header w.pages) w.disk) file (filed_write w.pages (behind_header w.pages) w.held w.coming w.disk inv (in_body w.pages)) leaves
    refused BodySync w inv file leaves = stuck w.pages w.held w.coming w.disk file inv.0 leaves
    refused Header w inv file leaves =
        stuck w.pages w.held w.coming (begun_write (header_of w.pages) w.disk) file (filed_write w.pages (header_of w.pages) w.held w.coming w.disk inv.0 (in_header w.pages)) leaves
    refused HeaderSync w inv file leaves = stuck w.pages w.held w.coming w.disk file inv.0 leaves
    refused Empty w inv file leaves = loose_refused w.held w.coming (begun_journal [] w.disk) file (loose_journal w.held w.coming w.disk [] inv (nothing_fits w.held w.coming)) leaves
    refused EmptySync w inv file leaves = loose_refused w.held w.coming w.disk file inv.0 leaves
    refused Stuck w inv file leaves = record { whole = inv.whole; way = way_refused w.pages w.held w.coming w.disk file inv.way leaves }
    refused Littered w inv file leaves = loose_refused w.held w.coming w.disk file inv leaves

    -- A step is carried out

    -- a journal is synced: what it has holds
    pub kept_loose : (pages : Pages) (held : Contents) (coming : Option Contents) (disk : Disk) → Loose held coming disk → reads (last_journal disk.journal disk.journals) ≡ Some pages →
        Filed pages (with_pages pages held) None (record disk { journal = last_journal disk.journal disk.journals; journals = [] })
    kept_loose pages held coming disk loose whole =
        record {
          whole = whole;
          quiet = refl;
          none_comes = refl;
          inside = λ place in_it. sym (taken (pages.has place) (pages.byte place) (held place) in_it);
          outside = λ place not_in. loose.file place ∙ sym (left_of (pages.has place) (pages.byte place) (held place) not_in);
          seen = λ place not_in. loose.seen place ∙ sym (left_of (pages.has place) (pages.byte place) (held place) not_in);
          writes = λ place byte wrote. absurd (subst (λ (writes : List Pages). Wrote writes place byte) loose.writes wrote);
        }

    pub kept_filed : (pages : Pages) (held : Contents) (coming : Option Contents) (disk : Disk) → Filed pages held coming disk → reads (last_journal disk.journal disk.journals) ≡ Some pages →
        Filed pages (with_pages pages held) None (record disk { journal = last_journal disk.journal disk.journals; journals = [] })
    kept_filed pages held coming disk filed whole =
        record {
          whole = whole;
          quiet = refl;
          none_comes = refl;
          inside = λ place in_it. sym (taken (pages.has place) (pages.byte place) (held place) in_it);
          outside = λ place not_in. filed.outside place not_in ∙ sym (left_of (pages.has place) (pages.byte place) (held place) not_in);
          seen = λ place not_in. filed.seen place not_in ∙ sym (left_of (pages.has place) (pages.byte place) (held place) not_in);
          writes = filed.writes;
        }

    pub kept : (pages : Pages) (held : Contents) (coming : Option Contents) (disk : Disk) → Way pages held coming disk → reads (last_journal disk.journal disk.journals) ≡ Some pages →
        Filed pages (with_pages pages held) None (record disk { journal = last_journal disk.journal disk.journals; journals = [] })
    kept pages held coming disk (inl loose) whole = kept_loose pages held coming disk loose whole
    kept pages held coming disk (inr filed) whole = kept_filed pages held coming disk filed whole

    -- pages of the journal are written to the file
    pub filed_written : (pages some : Pages) (held : Contents) (coming : Option Contents) (disk : Disk) → Filed pages held coming disk → ((place : ℕ) → some.has place ≡ true → pages.has place ≡ true) →
        Filed pages held coming (written some disk)
    filed_written pages some held coming disk filed within =
        record {
          whole = filed.whole;
          quiet = filed.quiet;
          none_comes = filed.none_comes;
          inside = filed.inside;
          outside = filed.outside;
          seen = λ place not_in. pick (some.has place) (some.byte place) (disk.seen place) (held place) (λ in_it. let has = within place in_it in cc) (λ not_some. filed.seen place not_in);
          writes = (filed_write pages some held coming disk filed within).writes;
        }

    -- the file is synced
    pub filed_synced : (pages : Pages) (held : Contents) (coming : Option Contents) (disk : Disk) → Filed pages held coming disk → Filed pages held coming (record disk { file = disk.seen; writes = [] })
    filed_synced pages held coming disk filed =
        record {
          whole = filed.whole;
          quiet = filed.quiet;
          none_comes = filed.none_comes;
          inside = filed.inside;
          outside = filed.seen;
          seen = filed.seen;
          writes = λ place byte wrote. absurd wrote;
        }

    -- the pages behind the header are written
    pub body_seen : (pages : Pages) (held : Contents) (coming : Option Contents) (disk : Disk) → Filed pages held coming disk → SeenBehind held (written (behind_header pages) disk)
    body_seen pages held coming disk filed place far =
        pick ((behind_header pages).has place) (pages.byte place) (disk.seen place) (held place)
        (λ in_it. filed.inside place (in_body pages place in_it))
        (λ not_in. filed.seen place (not_body (pages.has place) (nat_lt place 512) far not_in))
      where
        not_body : (a b : Bool) → b ≡ false → (a && not b) ≡ false → a ≡ false
        not_body true true far not_in = cc
        not_body true false far not_in = cc
        not_body false b far not_in = refl

    -- and the header
    pub header_seen : (pages : Pages) (held : Contents) (coming : Option Contents) (disk : Disk) → Filed pages held coming disk → SeenBehind held disk → Same (written (header_of pages) disk).seen held
    header_seen pages held coming disk filed seen place =
        pick ((header_of pages).has place) (pages.byte place) (disk.seen place) (held place)
        (λ in_it. filed.inside place (in_header pages place in_it))
        (λ not_in. not_header (pages.has place) (nat_lt place 512) not_in (λ out. filed.seen place out) (seen place))
      where
        not_header : (a b : Bool) {x y : ℕ} → (a && b) ≡ false → (a ≡ false → x ≡ y) → (b ≡ false → x ≡ y) → x ≡ y
        not_header true true not_in out far = cc
        not_header true false not_in out far = far refl
        not_header false b not_in out far = out refl

    -- the file is what holds: the journal does no harm
    pub filed_done : (pages : Pages) (held : Contents) (coming : Option Contents) (disk : Disk) → Filed pages held coming disk → Same disk.seen held → Loose held coming (record disk { file = disk.seen; writes = [] })
    filed_done pages held coming disk filed seen =
        record {
          writes = refl;
          file = seen;
          seen = seen;
          journal = λ read whole. let same : read ≡ pages = cc (whole, filed.whole) in
              inl (subst (λ (p : Pages). Same (with_pages p held) held) (sym same) (filed_is pages held held filed.inside (λ place not_in. refl)));
          journals = subst (λ (others : List (List ℕ)). AllFit held coming others) (sym filed.quiet) tt;
        }

    pub carries : (s : Stage) (w : World) → Inv s w →
        Inv (after s true) (record w { stage = after s true; held = held_after s w.pages w.held; from = from_after s w.held w.from; coming = coming_after s w.coming; disk = carried (step_of s) w.pages w.bytes w.disk })
    carries Rest w inv = record { file = inv.file; seen = inv.seen; writes = inv.writes; journal = inv.journal; journals = inv.journals; coming = inv.coming }
    carries Journal w inv = (loose_journal w.held w.coming w.disk w.bytes inv.0 (comes_fits w.pages w.bytes w.held w.coming inv.1), inv.1, refl)
    carries JournalSync w inv = kept_loose w.pages w.held w.coming w.disk inv.0 (ap reads inv.2 ∙ inv.1.whole)
    carries Found w inv = kept w.pages w.held w.coming w.disk inv.way inv.whole
    carries Mark w inv = filed_written w.pages in_use w.held w.coming w.disk inv (in_mark w.pages w.held w.coming w.disk inv)
    carries MarkSync w inv = filed_synced w.pages w.held w.coming w.disk inv
    carries Body w inv = (filed_written w.pages (behind_header w.pages) w.held w.coming w.disk inv (in_body w.pages), body_seen w.pages w.held w.coming w.disk inv)
    carries BodySync w inv = (filed_synced w.pages w.held w.coming w.disk inv.0, inv.1)
    carries Header w inv = (filed_written w.pages (header_of w.pages) w.held w.coming w.disk inv.0 (in_header w.pages), header_seen w.pages w.held w.coming w.disk inv.0 inv.1)
    carries HeaderSync w inv = filed_done w.pages w.held w.coming w.disk inv.0 inv.1
    carries Empty w inv = (loose_journal w.held w.coming w.disk [] inv (nothing_fits w.held w.coming), refl)
    carries EmptySync w inv =
        record { file = inv.0.file; seen = inv.0.seen; writes = inv.0.writes; journal = ap reads inv.1 ∙ none; journals = refl; coming = refl }
    carries Stuck w inv = record { whole = inv.whole; way = inv.way }
    carries Littered w inv = inv

    -- Runs

    pub resumes : (s : Stage) (w : World) → Inv s w → Inv (resumed s) (record w { stage = resumed s })
    resumes Rest w inv = record { file = inv.file; seen = inv.seen; writes = inv.writes; journal = inv.journal; journals = inv.journals; coming = inv.coming }
    resumes Journal w inv = inv
    resumes JournalSync w inv = inv
    resumes Found w inv = inv
    resumes Mark w inv = inv
    resumes MarkSync w inv = inv
    resumes Body w inv = inv
    resumes BodySync w inv = inv
    resumes Header w inv = inv
    resumes HeaderSync w inv = inv
    resumes Empty w inv = inv
    resumes EmptySync w inv = inv
    resumes Stuck w inv = inv
    resumes Littered w inv = inv

    -- a checkpoint begins
    pub begins : (w : World) → IsSettled reads w → (pages : Pages) (bytes : List ℕ) → reads bytes ≡ Some pages →
        Inv Journal (record w { stage = Journal; pages = pages; bytes = bytes; coming = Some (with_pages pages w.held) })
    begins w settled pages bytes whole = (
      record {
        writes = settled.writes;
        file = settled.file;
        seen = settled.seen;
        journal = λ read is. absurd (let nothing = settled.journal in cc);
        journals = subst (λ (others : List (List ℕ)). AllFit w.held (Some (with_pages pages w.held)) others) (sym settled.journals) tt;
      },
      record { whole = whole; is = refl },
    )

    pub keeps : (w : World) → Inv w.stage w → (event : Event) → CanHappen reads w event → Inv (happens reads w event).stage (happens reads w event)
    keeps w inv Carried can = carries w.stage w inv
    keeps w inv (Refused file) can = refused w.stage w inv file can
    keeps w inv (Fallen file bytes) can = way_fallen w w.pages (under_way w) (way_of w.stage w inv) file bytes can.0 can.1
    keeps w inv (Died file bytes) can = way_died w w.pages (under_way w) (way_of w.stage w inv) file bytes can.0 can.1
    keeps w inv (Begins pages bytes) can = begins w (subst (λ (s : Stage). Inv s w) can.0 inv) pages bytes can.1
    keeps w inv Resumes can = resumes w.stage w inv

    pub all_kept : (w : World) → Inv w.stage w → (events : List Event) → IsRun reads w events → Inv (behind reads w events).stage (behind reads w events)
    all_kept w inv [] run = inv
    all_kept w inv (event ∷ events) run = all_kept (happens reads w event) (keeps w inv event run.0) events run.1

    pub at_first : (file : Contents) → Inv Rest (begin_with file)
    at_first file = record { file = λ place. refl; seen = λ place. refl; writes = refl; journal = none; journals = refl; coming = refl }

    -- What comes to hold

    pub finds_stands : (pages : Pages) (held : Contents) (coming : Option Contents) (disk : Disk) → Finds pages held coming disk → Is held coming (with_pages pages held)
    finds_stands pages held coming disk finds = by_way finds.way
      where
        by_way : Way pages held coming disk → Is held coming (with_pages pages held)
        by_way (inl loose) = last_fits disk.journal disk.journals loose.journal loose.journals pages finds.whole
          where
            last_fits : (journal : List ℕ) (others : List (List ℕ)) → Fits held coming journal → AllFit held coming others → Fits held coming (last_journal journal others)
            last_fits journal [] fits all = fits
            last_fits journal (other ∷ others) fits all = all.0
        by_way (inr filed) = inl (filed_is pages held held filed.inside (λ place not_in. refl))

    pub turns_to : (s : Stage) (w : World) → Inv s w → Is w.held w.coming (held_after s w.pages w.held)
    turns_to Rest w inv = inl (λ place. refl)
    turns_to Journal w inv = inl (λ place. refl)
    turns_to JournalSync w inv = inr (subst (λ (c : Option Contents). IsComing c (with_pages w.pages w.held)) (sym inv.1.is) (λ place. refl))
    turns_to Found w inv = finds_stands w.pages w.held w.coming w.disk inv
    turns_to Mark w inv = inl (λ place. refl)
    turns_to MarkSync w inv = inl (λ place. refl)
    turns_to Body w inv = inl (λ place. refl)
    turns_to BodySync w inv = inl (λ place. refl)
    turns_to Header w inv = inl (λ place. refl)
    turns_to HeaderSync w inv = inl (λ place. refl)
    turns_to Empty w inv = inl (λ place. refl)
    turns_to EmptySync w inv = inl (λ place. refl)
    turns_to Stuck w inv = inl (λ place. refl)
    turns_to Littered w inv = inl (λ place. refl)

    pub turns : (w : World) → Inv w.stage w → (event : Event) → Stands w (happens reads w event).held
    turns w inv Carried = turns_to w.stage w inv
    turns w inv (Refused file) = inl (λ place. refl)
    turns w inv (Fallen file bytes) = inl (λ place. refl)
    turns w inv (Died file bytes) = inl (λ place. refl)
    turns w inv (Begins pages bytes) = inl (λ place. refl)
    turns w inv Resumes = inl (λ place. refl)
