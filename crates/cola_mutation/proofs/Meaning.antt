-- What a mutation means to the laws of levels, up to the build of level 0.
use Rattle.std.proofs.Common.{◌≡◌, inl, ℕ, suc, ◌+◌, ◌*◌, ◌^◌, ◌≤◌, List, [], ◌∷◌, length, Option, refl, ap, sym, subst, ◌∙◌, arith}
use Rattle.std.specs.Cmp.Lexicographic.{nat_list_cmp_total}
use Rattle.std.specs.List.Sorted.{IsStrictlySortedBy}
use Rattle.cola_clock.specs.Clock.{period, is_odd, visible_slot}
use Rattle.cola_clock.specs.Marks.{Marks}
use Rattle.cola_runs.specs.Weave.{Part, weave}
use Rattle.cola_runs.specs.Steps.{Build, IsUnderWay}
use Rattle.cola_runs.proofs.Builds.{begun_is_under_way}
use Rattle.cola_laws.specs.Chain.{part_of, next_runs, first_keys}
use Rattle.cola_laws.specs.Sound.{IsSoundFrom}
use Rattle.cola_laws.specs.Mutation.{AreAdvanced, IsBuildable, new_run}
use Rattle.cola_laws.proofs.Workable.{all-workable, top-buildable}
use Rattle.cola_laws.proofs.Mutations.{advance}
use Rattle.cola_cell.specs.declared.cell.Cell.{Cell}
use Rattle.cola_cell.specs.declared.cell.Item.{Item}
use Rattle.cola_cell.specs.Held.{Held, Stamped, LawCell, IsTelling, as_item}
use Rattle.cola_cell.specs.Order.{key_cmp}
use Rattle.cola_cell.specs.Places.{slot_size}
use Rattle.cola_cell.specs.ToldCells.{AreTold}
use Rattle.cola_image.specs.Standing.{AreRunsTold}
use Rattle.cola_merge.specs.declared.aims.Feed.TheVariants as feed
use Rattle.cola_merge.specs.Feeds as merge
use Rattle.cola_merge.specs.Feeds.{feed_cells, feed_keys}
use Rattle.cola_merge.specs.Heads.{fresh, build_of, AreFeedsTold}
use Rattle.cola_merge.specs.Advance.{IsGoing, whole_run}
use Rattle.cola_merge.proofs.ToldRuns.{fresh_begun}
use Rattle.cola_level.specs.declared.level.Level.{Level}
use Rattle.cola_level.specs.Marks.{marks_of, all_marks_of}
use Rattle.cola_level.specs.Aims.{top_at, sample_of}
use Rattle.cola_level.specs.Standing.{visible_cells, stood, all_stood}
use Rattle.cola_level.proofs.Sources.{keys_of_next, part_of_aim}
use Rattle.cola_mutation.specs.Work.{Keeps, IsQuiet, CanAllTurn}
use Rattle.cola_mutation.specs.Standing.{StandsFor, new_cell}
use Rattle.cola_mutation.proofs.Advancing.{cells_stay, sampled_told}
use Rattle.cola_mutation.proofs.Building.{untold_none}
use Rattle.cola_mutation.proofs.Following.{length_marks}

pub length_stood : (held : Held) (t j : ℕ) (ms : List Marks) → length (all_stood held t j ms) ≡ length ms
length_stood held t j [] = refl
length_stood held t j (m ∷ ms) = ap suc (length_stood held t (suc j) ms)

-- as many levels as the laws count
pub room_below : (held : Held) (most t : ℕ) (ls : List Level) → most ≤ 2 ^ (suc (length ls) + 1) → most ≤ 2 ^ (0 + suc (length (all_stood held t 1 (all_marks_of ls))) + 1)
room_below held most t ls h =
    let e = length_stood held t 1 (all_marks_of ls) in
    let f = length_marks ls in
    let g : suc (length ls) + 1 ≡ 0 + suc (length (all_stood held t 1 (all_marks_of ls))) + 1 = omega (arith, e, f) in
    subst (λ (n : ℕ). most ≤ 2 ^ n) g h

-- what stands for a map may have its levels' turns
pub can_all_turn : (held : Held) (most t : ℕ) (top : Level) (below : List Level) (m : List ℕ → Option Stamped) → StandsFor held most t (top ∷ below) m → most ≤ 2 ^ (suc (length below) + 1) →
    CanAllTurn held t 0 top.visible (all_marks_of below)
can_all_turn held most t top below m s room = record {
  tells = s.tells;
  above_told = s.told.0;
  told = s.told.2;
  paced = s.sound.sound.paced;
  workable = all-workable nat_list_cmp_total most t 0 (visible_cells held t 0 top.visible) (all_stood held t 1 (all_marks_of below)) s.sound.sound.visible s.sound.sound.few s.sound.sound.kept (room_below held most t below room);
}

pub sound_after : (held mid : Held) (most ahead t : ℕ) (top : Level) (below worked : List Level) (m : List ℕ → Option Stamped) → StandsFor held most t (top ∷ below) m → Keeps (IsQuiet t 0) held mid →
    AreAdvanced key_cmp ahead t 1 (visible_cells held t 0 top.visible) (all_stood held t 1 (all_marks_of below)) (all_stood mid t 1 (all_marks_of worked)) →
    IsSoundFrom key_cmp most ahead t m (stood mid t 0 (marks_of top)) (all_stood mid t 1 (all_marks_of worked))
sound_after held mid most ahead t top below worked m s keeps adv =
    advance key_cmp most ahead t m (stood held t 0 (marks_of top)) (stood mid t 0 (marks_of top)) (all_stood held t 1 (all_marks_of below)) (all_stood mid t 1 (all_marks_of worked)) s.sound.sound
    (cells_stay 0 (visible_slot t 0) top.visible keeps (inl (inl (omega arith)))) adv

-- what the merge of level 0 builds
pub whole_is : (held : Held) (t own : ℕ) (key : List ℕ) (item : Item) (below : List Marks) →
    whole_run held (top_at t own (new_cell key item) below) ≡ weave key_cmp (part_of (is_odd (period t 0)) (all_stood held t 1 below)) (visible_cells held t 0 own) (new_run key (as_item item)) (first_keys (next_runs t 0 (all_stood held t 1 below)))
whole_is held t own key item below =
    ap (λ (p : Part). weave key_cmp p (visible_cells held t 0 own) (new_run key (as_item item)) (feed_keys held (sample_of t 0 below))) (part_of_aim held t 0 own (feed.One (new_cell key item)) below)
    ∙ ap (λ (ks : List (List ℕ)). weave key_cmp (part_of (is_odd (period t 0)) (all_stood held t 1 below)) (visible_cells held t 0 own) (new_run key (as_item item)) ks) (keys_of_next held t 0 below)

top_told : (held : Held) (t own : ℕ) (c : Cell) (below : List Marks) → AreTold (held.spots 0 (visible_slot t 0)) own → AreRunsTold held.spots t 1 below → AreFeedsTold held (top_at t own c below)
top_told held t own c [] v told = record { own = v; incoming = λ n h. refl; sample = λ n h. absurd (omega (arith, h)) }
top_told held t own c (next ∷ under) v told = record {
  own = v;
  incoming = λ n h. refl;
  sample = λ n h. sampled_told (is_odd (period t 0)) (held.spots 1) (visible_slot t 1) next.shadow next.visible told.0 told.1 (8 * n + 7) (omega (arith, h));
}

-- level 0 can be built
pub record CanBuild (held : Held) (t own : ℕ) (c : Cell) (below : List Marks) : Type 0 where
  pub going : IsGoing held (top_at t own c below) fresh
  pub fits : length (whole_run held (top_at t own c below)) ≤ slot_size 0

build_fresh : (held : Held) (t own : ℕ) (c : Cell) (below : List Marks) → (held.shadows 0).len ≡ 0 → IsUnderWay key_cmp (merge.part_of (top_at t own c below)) (feed_cells held (feed.Run (record { level = 0; slot = visible_slot t 0; len = own }))) (feed_cells held (feed.One c)) (feed_keys held (sample_of t 0 below)) (build_of held (top_at t own c below) fresh)
build_fresh held t own c below empty =
    subst (λ (b : Build (List ℕ) Stamped). IsUnderWay key_cmp (merge.part_of (top_at t own c below)) (feed_cells held (feed.Run (record { level = 0; slot = visible_slot t 0; len = own }))) (feed_cells held (feed.One c)) (feed_keys held (sample_of t 0 below)) b)
    (sym (fresh_begun held (top_at t own c below) empty))
    (begun_is_under_way key_cmp (merge.part_of (top_at t own c below)) (feed_cells held (feed.Run (record { level = 0; slot = visible_slot t 0; len = own }))) (feed_cells held (feed.One c)) (feed_keys held (sample_of t 0 below)))

pub can_build : (held : Held) (most ahead t : ℕ) (key : List ℕ) (item : Item) (top next : Level) (under : List Level) (m : List ℕ → Option Stamped) → IsTelling held → (held.shadows 0).len ≡ 0 →
    AreTold (held.spots 0 (visible_slot t 0)) top.visible → AreRunsTold held.spots t 1 (all_marks_of (next ∷ under)) →
    IsSoundFrom key_cmp most ahead t m (stood held t 0 (marks_of top)) (all_stood held t 1 (all_marks_of (next ∷ under))) → most ≤ 2 ^ (suc (length (next ∷ under)) + 1) →
    CanBuild held t top.visible (new_cell key item) (all_marks_of (next ∷ under))
can_build held most ahead t key item top next under m tells empty v told sound room =
    let b : IsBuildable key_cmp (part_of (is_odd (period t 0)) (all_stood held t 1 (all_marks_of (next ∷ under)))) 0 (visible_cells held t 0 top.visible) (new_run key (as_item item)) (first_keys (next_runs t 0 (all_stood held t 1 (all_marks_of (next ∷ under))))) =
    top-buildable nat_list_cmp_total most t key (as_item item) (stood held t 0 (marks_of top)) (stood held t 1 (marks_of next)) (all_stood held t 2 (all_marks_of under)) sound.visible sound.kept (room_below held most t (next ∷ under) room) in
    record {
      going = record {
        tells = tells;
        feeds = top_told held t top.visible (new_cell key item) (all_marks_of (next ∷ under)) v told;
        shadow = untold_none held empty;
        own_rises = b.own_rising;
        incoming_rises = b.incoming_rising;
        keys_rise = subst (λ (ks : List (List ℕ)). IsStrictlySortedBy key_cmp ks) (sym (keys_of_next held t 0 (all_marks_of (next ∷ under)))) b.keys_rising;
        under_way = build_fresh held t top.visible (new_cell key item) (all_marks_of (next ∷ under)) empty;
      };
      fits = subst (λ (cs : List LawCell). length cs ≤ slot_size 0) (sym (whole_is held t top.visible key item (all_marks_of (next ∷ under)))) b.fits;
    }
