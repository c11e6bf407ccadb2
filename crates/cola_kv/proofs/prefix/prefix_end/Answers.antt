use Rattle.std.proofs.Common.{◌≡◌, ◌∙◌, ℕ, ◌+◌, ◌-◌, ◌<◌, ◌≤◌, List, [], ◌∷◌, ◌++◌, get_or, take, drop, set, replicate, None, sym, subst, arith}
use Rattle.std.proofs.lemmas.List.{length-append, length-take}
use Rattle.cola_kv.specs.Prefix.{prefix_end}
use Rattle.cola_kv.proofs.Beginning.{end-raised, built, of-key}
use Rattle.cola_kv.proofs.prefix.prefix_end.Goals as goal
use Rattle.cola_kv.proofs.prefix.prefix_end.Goals.{then-loop-len-test+else-prefix-len, else-loop-len-test}

-- the last byte that is left is below 255
small : (c : goal.After-of) → get_or c.args.prefix.now (c.loop-len.len - 1) 0 < 255
small c =
    elim c.loop-len-test.branch [
      | then-loop-len-test+else-prefix-len w ↦ omega (arith, c.type_inv.prefix (c.loop-len.len - 1), w.if-prefix-len.false)
      | else-loop-len-test w ↦ absurd (omega (arith, w.loop-len-test.false, c.if-len-eq0.false))
    ]

pub returns : goal.returns
returns c =
    let prefix : List ℕ = c.args.prefix.now in
    let len : ℕ = c.loop-len.len in
    let next : ℕ = get_or prefix (len - 1) 0 + 1 in
    let few = c.loop-len.invariant.few in
    let some : 1 ≤ len = omega (arith, c.if-len-eq0.false) in
    let one : len ≡ (len - 1) + 1 = omega (arith, some) in
    let lengths = length-append (take (len - 1) prefix) (next ∷ []) in
    let front = length-take (len - 1) prefix in
    of-key c.of.result (take len (set (c.copy_from_slice.new.self ++ drop len (replicate 40 0)) (len - 1) next)) (take (len - 1) prefix ++ (next ∷ [])) c.of.ensures
    (built prefix c.copy_from_slice.new.self (drop len (replicate 40 0)) len next c.copy_from_slice.ensures.after few some)
    (omega (arith, lengths, front, few, some), omega (arith, lengths, front, few, some, c.requires))
    ∙ sym (end-raised prefix (len - 1) (omega (arith, few, some)) (small c) (subst (λ (n : ℕ). prefix_end (drop n prefix) ≡ None) one c.loop-len.invariant.behind))
