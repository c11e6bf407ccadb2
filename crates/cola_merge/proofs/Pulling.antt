-- What calls that give cells say, from the steps that they took.
use Rattle.std.proofs.Common.{◌≡◌, ℕ, ◌+◌, ◌-◌, ◌<◌, ◌≤◌, true, false, List, [], length, Option, Some, None, Result, Ok, Err, OnOk, refl, ap, sym, subst, ◌∙◌, arith}
use Rattle.std.specs.Option.{option_map, option_to_list, is_some}
use Rattle.std.proofs.lemmas.Bool.{true≢false}
use Rattle.cola_cell.specs.declared.cell.Cell.{Cell}
use Rattle.cola_cell.specs.declared.cell.Reader.{Reader}
use Rattle.cola_cell.specs.declared.cell.Reader.TheVariants.{Own, Incoming, Sample}
use Rattle.cola_cell.specs.declared.fault.ReadFault.{ReadFault}
use Rattle.cola_cell.specs.declared.fault.ReadFault.TheVariants.{Device, BadCell}
use Rattle.cola_cell.specs.Fault.{step_of_read}
use Rattle.cola_cell.specs.Held.{Held, LawCell, as_cell}
use Rattle.cola_cell.specs.Spent.{ReadCalm}
use Rattle.cola_merge.specs.Fetched.{Head}
use Rattle.cola_merge.specs.declared.aims.Aim.{Aim}
use Rattle.cola_merge.specs.declared.rules.Choice.{Choice}
use Rattle.cola_merge.specs.declared.merging.Merger.{Merger}
use Rattle.cola_merge.specs.Feeds.{feed_of, feed_len}
use Rattle.cola_merge.specs.Heads.{head_at, head_of, with_head, consumed, HasHeads}
use Rattle.cola_merge.specs.Rules.{HeadFits, Suits, emitted_of, choice_cell}
use Rattle.cola_merge.specs.States.{MergeState, TurnsWithin, StepCause, StepCalm}
use Rattle.cola_merge.specs.Pulls.{AreInOrder, Gives, IsEndedBy, FitsGiven, given_cells, HasPullCause, IsFrugal, Pulls, Looked, Unread, Chosen, Gave, Drawn}
use Rattle.cola_merge.proofs.Sums.{spends_none, spends_then, cause_then}
use Rattle.cola_merge.proofs.Reading.{head_in, with_passed, consumed-with, rises-with}
use Rattle.cola_merge.proofs.Stepping.{held_fits, head_there, held_below, passed_reads, passed_left, passed_heads}
use Rattle.cola_merge.proofs.Taking.{kept_at, heads_there}
use Rattle.cola_merge.proofs.Ruling.{ended_is_used_up}
use Rattle.cola_merge.proofs.Ahead.{ahead-next, ahead-none, ahead-same}

-- ---- parts of a call

-- cells are given behind source cells that gave none
pub gave_then : {aim : Aim} {s t u : MergeState} {given : List LawCell} → Gave aim s t [] → Gave aim t u given → Gave aim s u given
gave_then {aim} {s} {t} {u} {given} g k =
    let h = subst (λ (x : Held). Gave aim (kept_at x t) u given) g.cells_stay k in
    record {
      cells_stay = h.cells_stay;
      heads = h.heads;
      rises = λ reader. let x = g.rises reader in let y = h.rises reader in omega (arith, x, y);
      consumes = omega (arith, g.consumes, h.consumes);
      gives = λ o. g.gives o ∙ h.gives o;
      spends = spends_then g.spends h.spends;
      written_is = h.written_is ∙ g.written_is;
      others_stay = λ buffer d. h.others_stay buffer d ∙ g.others_stay buffer d;
      reads = omega (arith, g.reads, h.reads);
      turned = omega (arith, g.turned, h.turned);
      calm = h.calm ∙ g.calm;
    }

-- heads that were read
pub gave_look : {aim : Aim} {s t : MergeState} → Looked aim s t → Gave aim s t []
gave_look {aim} {s} {t} f = record {
  cells_stay = f.looks.cells_stay;
  heads = f.looks.heads;
  rises = λ reader. let e = f.looks.at_is reader in omega (arith, e);
  consumes = (let x = f.looks.at_is Own in let y = f.looks.at_is Incoming in let z = f.looks.at_is Sample in omega (arith, x, y, z));
  gives = λ _. ahead-same s.held aim s.merger t.merger f.looks.at_is;
  spends = f.looks.spends;
  written_is = f.looks.written_is;
  others_stay = f.looks.others_stay;
  reads = f.reads;
  turned = f.turned;
  calm = f.calm;
}

given_small : (c : Option Cell) → length (option_to_list (option_map as_cell c)) ≤ 1
given_small None = omega arith
given_small (Some c) = omega arith

-- a state whose chosen head is consumed
abbrev pub passed_at : MergeState → Choice → MergeState
passed_at t choice = record {
  held = t.held;
  spent = t.spent;
  merger = with_head t.merger choice.head (head_at ((head_of t.merger choice.head).at + 1));
  steps = t.steps;
}

module _ {aim : Aim} {s t : MergeState} (choice : Choice) (h : Chosen aim s t (Some choice)) where
  below : (head_of t.merger choice.head).at < feed_len (feed_of aim choice.head)
  below = held_below (head_in choice.head (heads_there h.looked)) (head_there aim t.merger choice.head (choice_cell t.merger choice) h.asked)

  one_more : consumed (passed_at t choice).merger ≡ consumed t.merger + 1
  one_more = consumed-with t.merger choice.head (head_at ((head_of t.merger choice.head).at + 1)) 1 refl

  -- the head that was chosen is consumed
  gave_consumed : Gave aim t (passed_at t choice) (option_to_list (option_map as_cell (choice_cell t.merger choice)))
  gave_consumed = record {
    cells_stay = refl;
    heads = passed_heads choice.head (heads_there h.looked) below;
    rises = λ other. rises-with t.merger choice.head (head_at ((head_of t.merger choice.head).at + 1)) (omega arith) other;
    consumes = (let l = given_small (choice_cell t.merger choice) in let e = one_more in omega (arith, l, e));
    gives = λ o. ahead-next t.held aim t.merger choice.head (choice_cell t.merger choice) (heads_there h.looked) h.fetched o h.asked;
    spends = spends_none t.spent t.steps;
    written_is = refl;
    others_stay = λ buffer d. refl;
    reads = (let a = passed_reads aim t.merger choice.head (head_there aim t.merger choice.head (choice_cell t.merger choice) h.asked) in omega (arith, a));
    turned = (let l = passed_left aim t.merger t.held.fixed.doublings t.spent.lasts choice.head below in omega (arith, l));
    calm = refl;
  }

  module _ {head passed : Head} (v : head ≡ head_of t.merger choice.head) (e : passed ≡ head_at (head.at + 1)) where
    -- the head is read and consumed, and what becomes of its cell is given
    pub gave_chosen : (cell : Option Cell) → cell ≡ emitted_of choice.pass head.cell →
        Gave aim s (record { held = t.held; spent = t.spent; merger = with_head t.merger choice.head passed; steps = t.steps }) (option_to_list (option_map as_cell cell))
    gave_chosen cell is =
        rw (is ∙ ap (λ (x : Head). emitted_of choice.pass x.cell) v, with_passed t.merger choice.head head passed v e) (gave_then (gave_look h.looked) gave_consumed)

    pub consumed_chosen : consumed s.merger < consumed (with_head t.merger choice.head passed)
    consumed_chosen =
        let x = h.looked.looks.at_is Own in let y = h.looked.looks.at_is Incoming in let z = h.looked.looks.at_is Sample in
        let k = ap consumed (with_passed t.merger choice.head head passed v e) ∙ one_more in omega (arith, k, x, y, z)

  -- the head of the choice, as it was asked for
  pub suits_by : {head : Head} → head ≡ head_of t.merger choice.head → Suits choice.pass head.cell
  suits_by e = rw e h.suits

  pub given_fits : {head : Head} (cell : Option Cell) → (HeadFits s.held.fixed.format head.cell → HeadFits s.held.fixed.format cell) → head ≡ head_of t.merger choice.head → HeadFits s.held.fixed.format cell
  given_fits cell fits e =
      fits (rw e (held_fits s.held (feed_of aim choice.head) (head_of t.merger choice.head).at (head_of t.merger choice.head).cell (head_in choice.head h.looked.looks.heads).cell))

-- ---- the calls of a loop

-- no choice is left: nothing was given, and each source cell was consumed
pub ended_at : {aim : Aim} {s t u : MergeState} (choice : Option Choice) → choice ≡ None → Gave aim s t [] → Chosen aim t u choice → Drawn aim s u (Ok None)
ended_at {aim} {s} {t} {u} choice f g h =
    let k : Chosen aim t u None = subst (λ (x : Option Choice). Chosen aim t u x) f h in
    record { draws = (gave_then g (gave_look k.looked), ended_is_used_up aim u.merger k.fetched k.asked) }

-- a cell was given
pub drawn_some : {aim : Aim} {s t : MergeState} (cell : Option Cell) → is_some cell ≡ true → HeadFits s.held.fixed.format cell → Gave aim s t (option_to_list (option_map as_cell cell)) → Drawn aim s t (Ok cell)
drawn_some None e f g = absurd (true≢false (sym e))
drawn_some (Some c) e f g = record { draws = (g, f) }

-- none was
pub none_given : {aim : Aim} {s t : MergeState} (cell : Option Cell) → is_some cell ≡ false → Gave aim s t (option_to_list (option_map as_cell cell)) → Gave aim s t []
none_given None e g = g
none_given (Some c) e g = absurd (true≢false e)

-- a head was not read
pub stopped_at : {aim : Aim} {s t u : MergeState} (result : Result (Option Cell) ReadFault) (fault : ReadFault) → result ≡ Err fault → Gave aim s t [] → Unread aim t u fault → Drawn aim s u result
stopped_at {t = t} result fault f g h = rw f (record { draws = record { between = t; gave = g; unread = h } })

-- fewer source cells are left
pub fewer_left : {held : Held} {aim : Aim} (m : Merger) {n : Merger} → HasHeads held aim n → consumed m < consumed n →
    feed_len aim.own + feed_len aim.incoming + feed_len aim.sample - consumed n < feed_len aim.own + feed_len aim.incoming + feed_len aim.sample - consumed m
fewer_left {held} {aim} m {n} h l = omega (arith, h.own.within, h.incoming.within, h.sample.within, l)

-- ---- what a call says

read_calm : (before between now : ℕ) (fault : ReadFault) → between ≡ before → StepCalm between now (step_of_read fault) → ReadCalm {T = Option Cell} before now (Err fault)
read_calm before between now Device e c = tt
read_calm before between now (BadCell number) e c = c ∙ e

one_of : {aim : Aim} {s t : MergeState} {cells : List LawCell} (result : Result (Option Cell) ReadFault) → Gave aim s t cells → length cells ≡ given_cells result →
    (AreInOrder s.held aim → Gives s.held aim s.merger t.merger result) → IsEndedBy aim t.merger result → FitsGiven s.held.fixed.format result →
    HasPullCause s.held aim s.spent.faults t.spent t.merger t.steps result → ReadCalm s.spent.faults t.spent.faults result → IsFrugal aim s.merger t.merger s.steps t.steps result →
    OnOk result (TurnsWithin aim s t) → Pulls aim s t result
one_of {aim} {s} {t} {cells} result g e gives ends fits cause calm ticks turned = record {
  cells_stay = g.cells_stay;
  heads = g.heads;
  lasts = g.others_stay;
  gives = gives;
  ends = ends;
  fits = fits;
  rises = g.rises;
  consumes = (let l = g.consumes in omega (arith, l, e));
  cause = cause;
  calm = calm;
  ticks = ticks;
  spends = g.spends;
  written = g.written_is;
  turned = turned;
}

-- a refusal, from the state that it began in
module _ {aim : Aim} {s t u : MergeState} {fault : ReadFault} (g : Gave aim s t []) (n : Unread aim (kept_at s.held t) u fault) where
  stopped_pulls : Pulls aim s u (Err fault)
  stopped_pulls = record {
    cells_stay = n.looks.cells_stay;
    heads = n.looks.heads;
    lasts = λ buffer b. n.looks.others_stay buffer b ∙ g.others_stay buffer b;
    gives = λ o. sym (g.gives o ∙ ahead-same s.held aim t.merger u.merger n.looks.at_is);
    ends = tt;
    fits = tt;
    rises = rises;
    consumes = (let x = rises Own in let y = rises Incoming in let z = rises Sample in omega (arith, x, y, z));
    cause = cause_then aim s.spent.faults t.spent.faults (kept_at s.held u) (step_of_read fault) g.calm (subst (λ (x : Held). StepCause aim t.spent.faults (kept_at x u) (step_of_read fault)) n.looks.cells_stay n.cause);
    calm = read_calm s.spent.faults t.spent.faults u.spent.faults fault g.calm n.calm;
    ticks = (omega (arith, g.reads, n.reads), n.left);
    spends = spends_then g.spends n.looks.spends;
    written = n.looks.written_is ∙ g.written_is;
    turned = tt;
  }
    where
      rises : (reader : Reader) → (head_of s.merger reader).at ≤ (head_of u.merger reader).at
      rises reader = let x = g.rises reader in let e = n.looks.at_is reader in omega (arith, x, e)

pub pulls : {aim : Aim} {s t : MergeState} (result : Result (Option Cell) ReadFault) → Drawn aim s t result → Pulls aim s t result
pulls (Ok (Some c)) d = let g = d.draws.0 in one_of (Ok (Some c)) g refl g.gives tt d.draws.1 tt g.calm g.reads g.turned
pulls {aim} {s} {t} (Ok None) d = let g = d.draws.0 in one_of (Ok None) g refl (λ o. g.gives o ∙ ahead-none s.held aim t.merger d.draws.1) d.draws.1 tt tt g.calm g.reads g.turned
pulls {aim} {s} {t} (Err fault) d =
    stopped_pulls d.draws.gave (subst (λ (x : Held). Unread aim (kept_at x d.draws.between) t fault) d.draws.gave.cells_stay d.draws.unread)
