-- The cells that are ahead of a merge, and the first of them.
use Rattle.std.proofs.Common.{◌≡◌, ℕ, suc, ◌+◌, ◌<◌, ◌≤◌, ◌↔◌, List, [], ◌++◌, length, drop, Option, refl, ap, sym, subst, ◌∙◌, arith}
use Rattle.std.specs.Cmp.Lexicographic.{nat_list_cmp_total}
use Rattle.std.specs.Option.{option_map, option_to_list}
use Rattle.std.specs.List.Sorted.{IsStrictlySortedBy}
use Rattle.std.specs.declared.cmp.Ordering.{Ordering}
use Rattle.cola_runs.specs.Cells.{Cell, count_looks}
use Rattle.cola_runs.specs.Weave.{Part, relinked, unlinked, weave, IsCut}
use Rattle.cola_runs.specs.Steps as runs
use Rattle.cola_runs.specs.Steps.{Action, Take, rule}
use Rattle.cola_runs.proofs.Counts.{looks_are_keys, relinked_keys, keys_unlinked}
use Rattle.cola_runs.proofs.Cuts.{TakesFirst, IsRight, own_left, incoming_left, keys_left, rule_is_right}
use Rattle.cola_runs.proofs.Stepping.{get_from, drop_one_more, sorted_from, drop_all, left_from, looks_append}
use Rattle.cola_cell.specs.declared.cell.Reader.{Reader}
use Rattle.cola_cell.specs.declared.cell.Reader.TheVariants.{Own, Incoming, Sample}
use Rattle.cola_cell.specs.declared.cell.Cell as object
use Rattle.cola_cell.specs.Held.{Held, LawCell, Stamped, as_cell}
use Rattle.cola_cell.specs.Order.{key_cmp}
use Rattle.cola_merge.specs.declared.aims.Aim.{Aim}
use Rattle.cola_merge.specs.declared.merging.Merger.{Merger}
use Rattle.cola_merge.specs.Feeds.{part_of, feed_len, feed_cells, feed_keys}
use Rattle.cola_merge.specs.Heads.{fresh, head_at, head_of, with_head, HasHeads, IsUsedUp, AreFetched}
use Rattle.cola_merge.specs.Rules.{as_head, next_action}
use Rattle.cola_merge.specs.Advance.{whole_run}
use Rattle.cola_merge.specs.Pulls.{AreInOrder, ahead}
use Rattle.cola_merge.proofs.Ruling.{feed_length, keys_length, action_of_heads}

-- ---- the first cells of a weave

module _ {K V : Type 0} (cmp : K → K → Ordering) (part : Part) (n : ℕ) (own incoming : List (Cell K V)) (keys : List K) (rise : IsStrictlySortedBy cmp keys) where
  left_rise : (head : runs.Head) → IsStrictlySortedBy cmp (keys_left head keys)
  left_rise runs.Own = rise
  left_rise runs.Incoming = rise
  left_rise runs.Sample = sorted_from cmp 1 keys rise

  keys_of_weave : (k : ℕ) (o i : List (Cell K V)) (ks : List K) → IsStrictlySortedBy cmp ks → count_looks (relinked k (unlinked cmp part o i ks)) ≡ length ks
  keys_of_weave k o i ks h = looks_are_keys (relinked k (unlinked cmp part o i ks)) ∙ ap length (relinked_keys k (unlinked cmp part o i ks) ∙ keys_unlinked cmp part o i ks h)

  -- a lookahead cell is emitted for each key of the sample that is consumed
  counted : (head : runs.Head) (cells : List (Cell K V)) → TakesFirst cmp part n own incoming keys head cells → count_looks cells + length (keys_left head keys) ≡ length keys
  counted head cells r =
      let a = ap count_looks r.first in
      let b = looks_append cells (relinked (count_looks cells + n) (unlinked cmp part (own_left head own) (incoming_left head incoming) (keys_left head keys))) in
      let c = keys_of_weave n own incoming keys rise in
      let d = keys_of_weave (count_looks cells + n) (own_left head own) (incoming_left head incoming) (keys_left head keys) (left_rise head) in
      omega (arith, a, b, c, d)

one_less : {X : Type 0} (xs : List X) → 0 < length xs → length (drop 1 xs) + 1 ≡ length xs
one_less xs h = let e = left_from 1 xs in omega (arith, e, h)

next_drop : {X : Type 0} (n : ℕ) (xs : List X) → drop 1 (drop n xs) ≡ drop (n + 1) xs
next_drop {X} n xs = drop_one_more n xs ∙ ap (λ (k : ℕ). drop k xs) (let e : suc n ≡ n + 1 = omega arith in e)

-- ---- one step

module _ (held : Held) (aim : Aim) (m : Merger) where
  abbrev own : List LawCell
  own = drop m.own.at (feed_cells held aim.own)

  abbrev incoming : List LawCell
  incoming = drop m.incoming.at (feed_cells held aim.incoming)

  abbrev keys : List (List ℕ)
  keys = drop m.sample.at (feed_keys held aim.sample)

  right : HasHeads held aim m → AreFetched aim m → AreInOrder held aim → (a : Action (List ℕ) Stamped) → a ≡ next_action aim m → IsRight key_cmp (part_of aim) m.sample.at own incoming keys a
  right r f t a e =
      subst (IsRight key_cmp (part_of aim) m.sample.at own incoming keys)
      (let x = get_from m.own.at (feed_cells held aim.own) in
      let y = get_from m.incoming.at (feed_cells held aim.incoming) in
      let z = get_from m.sample.at (feed_keys held aim.sample) in
      let k = action_of_heads held aim m r f t.feeds in cc)
      (rule_is_right nat_list_cmp_total (part_of aim) m.sample.at own incoming keys (sorted_from _ m.own.at (feed_cells held aim.own) t.own_rises) (sorted_from _ m.incoming.at (feed_cells held aim.incoming) t.incoming_rises)
      (sorted_from key_cmp m.sample.at (feed_keys held aim.sample) t.keys_rise))

  keys_rise : AreInOrder held aim → IsStrictlySortedBy key_cmp keys
  keys_rise t = sorted_from key_cmp m.sample.at (feed_keys held aim.sample) t.keys_rise

  step_by : (reader : Reader) (cells : List LawCell) → AreInOrder held aim → TakesFirst key_cmp (part_of aim) m.sample.at own incoming keys (as_head reader) cells →
      ahead held aim m ≡ cells ++ ahead held aim (with_head m reader (head_at ((head_of m reader).at + 1)))
  step_by Own cells t r =
      let e = counted key_cmp (part_of aim) m.sample.at own incoming keys (keys_rise t) runs.Own cells r in
      let z : count_looks cells + m.sample.at ≡ m.sample.at = omega (arith, e) in rw (r.first, z, ← next_drop m.own.at (feed_cells held aim.own))
  step_by Incoming cells t r =
      let e = counted key_cmp (part_of aim) m.sample.at own incoming keys (keys_rise t) runs.Incoming cells r in
      let z : count_looks cells + m.sample.at ≡ m.sample.at = omega (arith, e) in rw (r.first, z, ← next_drop m.incoming.at (feed_cells held aim.incoming))
  step_by Sample cells t r =
      let e = counted key_cmp (part_of aim) m.sample.at own incoming keys (keys_rise t) runs.Sample cells r in
      let k = one_less keys r.there in
      let z : count_looks cells + m.sample.at ≡ m.sample.at + 1 = omega (arith, e, k) in rw (r.first, z, ← next_drop m.sample.at (feed_keys held aim.sample))

  -- the step that the heads ask for emits the first of the cells ahead, or passes over a source cell
  pub ahead-next : (reader : Reader) (c : Option object.Cell) → HasHeads held aim m → AreFetched aim m → AreInOrder held aim → Take (as_head reader) (option_map as_cell c) ≡ next_action aim m →
      ahead held aim m ≡ option_to_list (option_map as_cell c) ++ ahead held aim (with_head m reader (head_at ((head_of m reader).at + 1)))
  ahead-next reader c r f t e = step_by reader (option_to_list (option_map as_cell c)) t (right r f t (Take (as_head reader) (option_map as_cell c)) e)

  -- nothing is ahead where each source cell was consumed
  pub ahead-none : IsUsedUp aim m → ahead held aim m ≡ []
  unfolding unlinked
  ahead-none u =
      let a = past (feed_cells held aim.own) m.own.at (feed_len aim.own) (feed_length held aim.own) u.own in
      let b = past (feed_cells held aim.incoming) m.incoming.at (feed_len aim.incoming) (feed_length held aim.incoming) u.incoming in
      let c = past (feed_keys held aim.sample) m.sample.at (feed_len aim.sample) (keys_length held aim.sample) u.sample in
      rw (a, b, c)
    where
      past : {X : Type 0} (xs : List X) (n l : ℕ) → length xs ≡ l → l ≤ n → drop n xs ≡ []
      past xs n l e h = drop_all n xs (omega (arith, e, h))

-- other heads at the same cursors
pub ahead-same : (held : Held) (aim : Aim) (m n : Merger) → ((reader : Reader) → (head_of n reader).at ≡ (head_of m reader).at) → ahead held aim m ≡ ahead held aim n
ahead-same held aim m n e = let a = e Own in let b = e Incoming in let c = e Sample in cc

-- ahead of a merge that has not begun is its whole run
pub ahead-fresh : (held : Held) (aim : Aim) → ahead held aim fresh ≡ whole_run held aim
unfolding weave
ahead-fresh held aim = refl

-- ---- a cut

module _ (held : Held) (aim : Aim) (m : Merger) (done : List LawCell) (t : AreInOrder held aim) (h : m.sample.at ≤ feed_len aim.sample) where
  abbrev left : List LawCell
  left = unlinked key_cmp (part_of aim) (own held aim m) (incoming held aim m) (keys held aim m)

  -- what was emitted before the rest has as many lookahead cells as keys of the sample were consumed
  looks_done : (n : ℕ) → done ++ relinked n left ≡ whole_run held aim → count_looks done ≡ m.sample.at
  unfolding weave
  looks_done n e =
      let a = ap count_looks e in
      let b = looks_append done (relinked n left) in
      let c = keys_of_weave key_cmp (part_of aim) n (feed_cells held aim.own) (feed_cells held aim.incoming) (feed_keys held aim.sample) t.keys_rise n (own held aim m) (incoming held aim m) (keys held aim m) (keys_rise held aim m t) in
      let d = keys_of_weave key_cmp (part_of aim) n (feed_cells held aim.own) (feed_cells held aim.incoming) (feed_keys held aim.sample) t.keys_rise 0 (feed_cells held aim.own) (feed_cells held aim.incoming) (feed_keys held aim.sample) t.keys_rise in
      let l = keys_length held aim.sample in
      let total : count_looks done + length (keys held aim m) ≡ length (feed_keys held aim.sample) = omega (arith, a, b, c, d) in
      let k = left_from m.sample.at (feed_keys held aim.sample) in omega (arith, total, k, h, l)

  pub cut_is_ahead : (done ++ ahead held aim m ≡ whole_run held aim)
      ↔ IsCut key_cmp (part_of aim) (feed_cells held aim.own) (feed_cells held aim.incoming) (feed_keys held aim.sample) (own held aim m) (incoming held aim m) (keys held aim m) done
  cut_is_ahead = (
    λ e. ap (λ (n : ℕ). done ++ relinked n left) (looks_done m.sample.at e) ∙ e,
    λ e. ap (λ (n : ℕ). done ++ relinked n left) (sym (looks_done (count_looks done) e)) ∙ e,
  )
