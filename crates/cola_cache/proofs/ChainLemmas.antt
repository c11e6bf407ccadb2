-- Chains of frames, the highest number first: what follows where one frame is put in or taken out.
use Rattle.std.proofs.Common.{◌≡◌, inl, inr, ⊎_elim, ℕ, ◌+◌, ◌-◌, ◌*◌, ◌^◌, ◌<◌, ◌≤◌, ◌≢◌, List, length, get_or, set, replicate, Option, Some, None, refl, sym, ◌∙◌, ap, subst, arith, length-set, get_or-set_same, get_or-set_other}
use Rattle.std.proofs.lemmas.Bool.{cases_eq, cases_lt, cases_order}
use Rattle.std.proofs.lemmas.List.{get_or_past, get_or-replicate, length-replicate}
use Rattle.cola_cache.specs.Index.{Blocks, block_in, chain_of, IsIn, IsPlace, IsLink, AreLinked, AreChained, IsAbove}

module _ (held : ℕ → Option ℕ) (chain : ℕ → ℕ) (count : ℕ) (link : ℕ → ℕ) (inside : (frame block : ℕ) → held frame ≡ Some block → frame < count) (linked : AreLinked held chain count link) where
  -- of two places of a chain, the higher one's link does not miss the lower
  higher : (number low high : ℕ) → IsPlace held chain count number low → IsPlace held chain count number high → low < high → low < link high
  higher number low high (inl behind) (inl end) less = absurd (omega arith)
  higher number low high (inl behind) (inr frame) less = absurd (omega (arith, inside high frame.0 frame.1))
  higher number low high (inr frame) place less = (linked number high place).misses_none low frame.0 frame.1 frame.2 less

  -- a chain has one place above a frame whose link does not go above it
  alone : (number place other frame : ℕ) → IsPlace held chain count number place → IsPlace held chain count number other → frame < place → frame < other → link place ≤ frame + 1 → link other ≤ frame + 1 → other ≡ place
  alone number place other frame here there above beyond passes crosses = ⊎_elim (λ same. same) (λ apart. ⊎_elim
      (λ (less : other < place). let step : other < link place = higher number other place there here less in absurd (omega arith))
      (λ (less : place < other). let step : place < link other = higher number place other here there less in absurd (omega arith)) apart) (cases_order other place)

  -- a place belongs to one chain
  one-chain : (first second place : ℕ) → IsPlace held chain count first place → IsPlace held chain count second place → first ≡ second
  one-chain first second place (inl behind) (inl end) = omega arith
  one-chain first second place (inl behind) (inr frame) = absurd (omega (arith, inside place frame.0 frame.1))
  one-chain first second place (inr frame) (inl end) = absurd (omega (arith, inside place frame.0 frame.1))
  one-chain first second place (inr frame) (inr other) = let same : frame.0 ≡ other.0 = (let both : Some frame.0 ≡ Some other.0 = sym frame.1 ∙ other.1 in cc) in sym frame.2 ∙ (ap chain same ∙ other.2)

  module _ (new : ℕ → Option ℕ) (next : ℕ → ℕ) (block frame above : ℕ) (kept : (other : ℕ) → other ≢ frame → new other ≡ held other) (place : IsPlace held chain count (chain block) above) (over : frame < above) (passes : link above ≤ frame + 1) where
    was-in : (number other : ℕ) → other ≢ frame → IsIn new chain number other → IsIn held chain number other
    was-in number other apart is = (is.0, sym (kept other apart) ∙ is.1, is.2)

    now-in : (number other : ℕ) → other ≢ frame → IsIn held chain number other → IsIn new chain number other
    now-in number other apart is = (is.0, kept other apart ∙ is.1, is.2)

    was-place : (number other : ℕ) → other ≢ frame → IsPlace new chain count number other → IsPlace held chain count number other
    was-place number other apart (inl behind) = inl behind
    was-place number other apart (inr is) = inr (was-in number other apart is)

    -- a frame that holds a block now is linked below that place, and all is linked as before
    module _ (free : held frame ≡ None) (now : new frame ≡ Some block) (within : frame < count) (below : next frame ≡ link above) (onto : next above ≡ frame + 1) (same : (other : ℕ) → other ≢ frame → other ≢ above → next other ≡ link other) where
      falls : link above ≤ frame
      falls = ⊎_elim (λ (is : link above ≡ frame + 1). let taken = (linked (chain block) above place).leads frame is in absurd (cc (taken.1, free))) (λ (no : link above ≢ frame + 1). omega (arith, passes, no)) (cases_eq (link above) (frame + 1))

      apart-free : (number other : ℕ) → IsIn held chain number other → other ≢ frame
      apart-free number other is = λ same. let taken : held frame ≡ Some is.0 = ap held (sym same) ∙ is.1 in absurd (cc (taken, free))

      link-frame : IsLink new chain (chain block) frame (next frame)
      link-frame = record {
        down = omega (arith, below, falls);
        misses_none = λ other number is at less.
            let apart : other ≢ frame = omega arith in
            let step : other < link above = (linked (chain block) above place).misses_none other number (sym (kept other apart) ∙ is) at (omega (arith, less, over)) in omega (arith, step, below);
        leads = λ other is.
            let was = (linked (chain block) above place).leads other (sym below ∙ is) in now-in (chain block) other (apart-free (chain block) other was) was;
      }

      link-above : IsLink new chain (chain block) above (next above)
      link-above = record {
        down = omega (arith, onto, over);
        misses_none = λ other number is at less. ⊎_elim
            (λ (here : other ≡ frame). omega (arith, here, onto))
            (λ (apart : other ≢ frame). let step : other < link above = (linked (chain block) above place).misses_none other number (sym (kept other apart) ∙ is) at less in omega (arith, step, onto, falls))
            (cases_eq other frame);
        leads = λ other is. let here : frame ≡ other = omega (arith, is, onto) in subst (λ number. IsIn new chain (chain block) number) here (block, now, refl);
      }

      link-other : (number other : ℕ) → other ≢ frame → other ≢ above → IsPlace held chain count number other → IsLink new chain number other (next other)
      link-other number other apart differ there =
          let is_link : IsLink held chain number other (link other) = linked number other there in
          let stays : next other ≡ link other = same other apart differ in record {
            down = omega (arith, stays, is_link.down);
            misses_none = λ third held_there is at less. ⊎_elim
                (λ (here : third ≡ frame).
                let this : held_there ≡ block = (let both : Some held_there ≡ Some block = sym is ∙ (ap new here ∙ now) in cc) in
                let mine : IsPlace held chain count (chain block) other = subst (λ n. IsPlace held chain count n other) (sym at ∙ ap chain this) there in
                ⊎_elim (λ (yes : frame < link other). omega (arith, yes, here, stays))
                (λ (no : link other ≤ frame). absurd (differ (alone (chain block) above other frame place mine over (omega (arith, here, less)) passes (omega (arith, no)))))
                (cases_lt frame (link other)))
                (λ (away : third ≢ frame). let step : third < link other = is_link.misses_none third held_there (sym (kept third away) ∙ is) at less in omega (arith, step, stays))
                (cases_eq third frame);
            leads = λ third is. let was = is_link.leads third (sym stays ∙ is) in now-in number third (apart-free number third was) was;
          }

      chain-of-frame : (number : ℕ) → IsPlace new chain count number frame → chain block ≡ number
      chain-of-frame number (inl behind) = absurd (omega (arith, within, behind))
      chain-of-frame number (inr is) = let this : block ≡ is.0 = (let both : Some block ≡ Some is.0 = sym now ∙ is.1 in cc) in ap chain this ∙ is.2

      pub linked-inserted : AreLinked new chain count next
      linked-inserted number other is = ⊎_elim
          (λ (here : other ≡ frame). subst (λ p. IsLink new chain number p (next p)) (sym here) (subst (λ n. IsLink new chain n frame (next frame)) (chain-of-frame number (subst (λ p. IsPlace new chain count number p) here is)) link-frame))
          (λ (apart : other ≢ frame). ⊎_elim
          (λ (there : other ≡ above). subst (λ p. IsLink new chain number p (next p)) (sym there) (subst (λ n. IsLink new chain n above (next above)) (one-chain (chain block) number above place (subst (λ p. IsPlace held chain count number p) there (was-place number other apart is))) link-above))
          (λ (differ : other ≢ above). link-other number other apart differ (was-place number other apart is))
          (cases_eq other above))
          (cases_eq other frame)

    -- a frame that held a block of the chain holds none, the place leads past it, and all is linked as before
    module _ (was : held frame ≡ Some block) (gone : new frame ≡ None) (onto : next above ≡ link frame) (same : (other : ℕ) → other ≢ above → next other ≡ link other) where
      led : link above ≡ frame + 1
      led = let step : frame < link above = (linked (chain block) above place).misses_none frame block was refl over in omega (arith, step, passes)

      apart-gone : (other number : ℕ) → new other ≡ Some number → other ≢ frame
      apart-gone other number is = λ here. let none : new other ≡ None = ap new here ∙ gone in absurd (cc)

      past-above : IsLink new chain (chain block) above (next above)
      past-above =
          let is_link : IsLink held chain (chain block) frame (link frame) = linked (chain block) frame (inr (block, was, refl)) in record {
            down = omega (arith, onto, is_link.down, over);
            misses_none = λ other number is at less.
                let apart : other ≢ frame = apart-gone other number is in
                let before : held other ≡ Some number = sym (kept other apart) ∙ is in
                let step : other < link above = (linked (chain block) above place).misses_none other number before at less in
                let past : other < link frame = is_link.misses_none other number before at (omega (arith, step, led, apart)) in omega (arith, past, onto);
            leads = λ other is.
                let before = is_link.leads other (sym onto ∙ is) in
                let apart : other ≢ frame = omega (arith, is_link.down, is, onto) in now-in (chain block) other apart before;
          }

      past-other : (number other : ℕ) → other ≢ above → IsPlace held chain count number other → IsLink new chain number other (next other)
      past-other number other differ there =
          let is_link : IsLink held chain number other (link other) = linked number other there in
          let stays : next other ≡ link other = same other differ in record {
            down = omega (arith, stays, is_link.down);
            misses_none = λ third held_there is at less.
                let step : third < link other = is_link.misses_none third held_there (sym (kept third (apart-gone third held_there is)) ∙ is) at less in omega (arith, step, stays);
            leads = λ third is.
                let before = is_link.leads third (sym stays ∙ is) in
                let apart : third ≢ frame = (λ (here : third ≡ frame).
                let this : before.0 ≡ block = (let both : Some before.0 ≡ Some block = sym before.1 ∙ (ap held here ∙ was) in cc) in
                let mine : IsPlace held chain count (chain block) other = subst (λ n. IsPlace held chain count n other) (sym before.2 ∙ ap chain this) there in
                differ (alone (chain block) above other frame place mine over (omega (arith, is_link.down, stays, is, here)) passes (omega (arith, stays, is, here)))) in
                now-in number third apart before;
          }

      apart-place : (number other : ℕ) → IsPlace new chain count number other → other ≢ frame
      apart-place number other (inl behind) = omega (arith, behind, inside frame block was)
      apart-place number other (inr is) = apart-gone other is.0 is.1

      pub linked-removed : AreLinked new chain count next
      linked-removed number other is =
          let there : IsPlace held chain count number other = was-place number other (apart-place number other is) is in
          ⊎_elim
          (λ (here : other ≡ above). subst (λ p. IsLink new chain number p (next p)) (sym here) (subst (λ n. IsLink new chain n above (next above)) (one-chain (chain block) number above place (subst (λ p. IsPlace held chain count number p) here there)) past-above))
          (λ (differ : other ≢ above). past-other number other differ there)
          (cases_eq other above)

-- a frame that holds a block is one of the list
pub listed-inside : (blocks : Blocks) (frame block : ℕ) → block_in blocks frame ≡ Some block → frame < length blocks
listed-inside blocks frame block is = ⊎_elim (λ (yes : frame < length blocks). yes) (λ (no : length blocks ≤ frame). let none : block_in blocks frame ≡ None = get_or_past blocks frame None no in absurd (cc)) (cases_lt frame (length blocks))

-- a walk down a block's chain, at a link: what holds the block is not passed yet
pub record IsWalk (blocks : Blocks) (block link : ℕ) : Type 0 where
  pub few : link ≤ length blocks
  pub misses_none : (frame : ℕ) → block_in blocks frame ≡ Some block → frame < link
  pub leads : (frame : ℕ) → link ≡ frame + 1 → IsIn (block_in blocks) (chain_of (length blocks)) (chain_of (length blocks) block) frame

pub walk-from : (blocks : Blocks) (links : List ℕ) (block place : ℕ) → AreChained blocks links → IsPlace (block_in blocks) (chain_of (length blocks)) (length blocks) (chain_of (length blocks) block) place → ((frame : ℕ) → block_in blocks frame ≡ Some block → frame < place) → IsWalk blocks block (get_or links place 0)
walk-from blocks links block place chained is before =
    let is_link : IsLink (block_in blocks) (chain_of (length blocks)) (chain_of (length blocks) block) place (get_or links place 0) = chained.linked (chain_of (length blocks) block) place is in record {
      few = ⊎_elim
          (λ (some : 0 < get_or links place 0). let next = is_link.leads (get_or links place 0 - 1) (omega arith) in let inside : get_or links place 0 - 1 < length blocks = listed-inside blocks (get_or links place 0 - 1) next.0 next.1 in omega arith)
          (λ (none : get_or links place 0 ≤ 0). omega arith)
          (cases_lt 0 (get_or links place 0));
      misses_none = λ frame held. is_link.misses_none frame block held refl (before frame held);
      leads = is_link.leads;
    }

pub same-all : {A : Type 0} (count place : ℕ) (item : A) → get_or (replicate count item) place item ≡ item
same-all count place item = ⊎_elim
    (λ (less : place < count). get_or-replicate count place item item less)
    (λ (more : count ≤ place). let long : length (replicate count item) ≤ place = simp length-replicate more in get_or_past (replicate count item) place item long)
    (cases_lt place count)

-- where no frame holds a block
pub chained-none : (count : ℕ) → count < 2 ^ 32 → AreChained (replicate count None) (replicate (3 * count + 1) 0)
chained-none count small = record {
  linked = λ number place is. record {
    down = omega (arith, same-all {A = ℕ} (3 * count + 1) place 0);
    misses_none = λ frame block held. let none : block_in (replicate count None) frame ≡ None = same-all {A = Option ℕ} count frame None in absurd (cc);
    leads = λ frame is_link. absurd (omega (arith, is_link, same-all {A = ℕ} (3 * count + 1) place 0));
  };
  as_many = simp length-replicate refl;
  few = simp length-replicate small;
}

-- where a frame takes a block
pub chained-inserted : (blocks : Blocks) (links : List ℕ) (block frame above : ℕ) → AreChained blocks links → frame < length blocks → block_in blocks frame ≡ None → IsAbove blocks links block frame above → above < length links → AreChained (set blocks frame (Some block)) (set (set links frame (get_or links above 0)) above (frame + 1))
chained-inserted blocks links block frame above chained inside free is within = record {
  linked = subst (λ count. AreLinked (block_in (set blocks frame (Some block))) (chain_of count) count (λ place. get_or (set (set links frame (get_or links above 0)) above (frame + 1)) place 0)) (sym (length-set blocks frame (Some block)))
      (linked-inserted (block_in blocks) (chain_of (length blocks)) (length blocks) (λ place. get_or links place 0) (listed-inside blocks) chained.linked
      (block_in (set blocks frame (Some block))) (λ place. get_or (set (set links frame (get_or links above 0)) above (frame + 1)) place 0) block frame above
      (λ other apart. get_or-set_other blocks frame other (Some block) None apart) is.is_place is.above is.passes
      free (get_or-set_same blocks frame (Some block) None inside) inside
      (let apart : frame ≢ above = omega (arith, is.above) in let room : frame < length links = omega (arith, is.above, within) in
      get_or-set_other (set links frame (get_or links above 0)) above frame (frame + 1) 0 apart ∙ get_or-set_same links frame (get_or links above 0) 0 room)
      (let room : above < length (set links frame (get_or links above 0)) = simp length-set within in get_or-set_same (set links frame (get_or links above 0)) above (frame + 1) 0 room)
      (λ other apart differ. get_or-set_other (set links frame (get_or links above 0)) above other (frame + 1) 0 differ ∙ get_or-set_other links frame other (get_or links above 0) 0 apart));
  as_many = simp length-set chained.as_many;
  few = simp length-set chained.few;
}

-- where a frame gives its block up
pub chained-removed : (blocks : Blocks) (links : List ℕ) (block frame above : ℕ) → AreChained blocks links → block_in blocks frame ≡ Some block → IsAbove blocks links block frame above → above < length links → AreChained (set blocks frame None) (set links above (get_or links frame 0))
chained-removed blocks links block frame above chained was is within = record {
  linked = subst (λ count. AreLinked (block_in (set blocks frame None)) (chain_of count) count (λ place. get_or (set links above (get_or links frame 0)) place 0)) (sym (length-set blocks frame None))
      (linked-removed (block_in blocks) (chain_of (length blocks)) (length blocks) (λ place. get_or links place 0) (listed-inside blocks) chained.linked
      (block_in (set blocks frame None)) (λ place. get_or (set links above (get_or links frame 0)) place 0) block frame above
      (λ other apart. get_or-set_other blocks frame other None None apart) is.is_place is.above is.passes
      was (get_or-set_same blocks frame None None (listed-inside blocks frame block was))
      (get_or-set_same links above (get_or links frame 0) 0 within)
      (λ other differ. get_or-set_other links above other (get_or links frame 0) 0 differ));
  as_many = simp length-set chained.as_many;
  few = simp length-set chained.few;
}
