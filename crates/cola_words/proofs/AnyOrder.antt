-- The order of the options makes no difference.
use Rattle.std.proofs.Common.{◌≡◌, Bool, true, false, List, ◌∷◌, Option, Some, None, refl, sym, ap, ◌∙◌, inl, inr, ◌⊎◌, if◌then◌else◌}
use Rattle.std.specs.Option.{option_and_then, is_some}
use Rattle.cola_words.specs.declared.options.Given.{Given}
use Rattle.cola_words.specs.declared.options.Given.TheVariants.{Keys, Block, Version, Cache, Cost, Mirror}
use Rattle.cola_words.specs.declared.options.Options.{Options}
use Rattle.cola_words.specs.Options.{with_given, with_all}

-- an option of this kind was given
was_given : Options → Given → Bool
was_given o (Keys n) = is_some o.keys
was_given o (Block n) = is_some o.block
was_given o (Version n) = is_some o.version
was_given o (Cache n) = is_some o.cache
was_given o Cost = o.cost
was_given o (Mirror place) = is_some o.mirror

-- the options with one of a kind in place of what was given
put : Options → Given → Options
put o (Keys n) = record o { keys = Some n }
put o (Block n) = record o { block = Some n }
put o (Version n) = record o { version = Some n }
put o (Cache n) = record o { cache = Some n }
put o Cost = record o { cost = true }
put o (Mirror place) = record o { mirror = Some place }

put_once : (o : Options) (given : Given) → with_given o given ≡ (if was_given o given then None else Some (put o given))
unfolding was_given put
put_once o (Keys n) = refl
put_once o (Block n) = refl
put_once o (Version n) = refl
put_once o (Cache n) = refl
put_once o Cost = refl
put_once o (Mirror n) = refl

-- two options of different kinds do not touch each other
record AreApart (o : Options) (a b : Given) : Type 0 where
  first : was_given (put o b) a ≡ was_given o a
  second : was_given (put o a) b ≡ was_given o b
  both : put (put o a) b ≡ put (put o b) a

-- of two options of one kind the later is refused
record AreAlike (o : Options) (a b : Given) : Type 0 where
  first : was_given (put o b) a ≡ true
  second : was_given (put o a) b ≡ true
  same : was_given o a ≡ was_given o b

two_kinds : (o : Options) (a b : Given) → AreApart o a b ⊎ AreAlike o a b
unfolding was_given put
two_kinds o (Keys m) (Keys n) = inr (record { first = refl; second = refl; same = refl })
two_kinds o (Keys m) (Block n) = inl (record { first = refl; second = refl; both = refl })
two_kinds o (Keys m) (Version n) = inl (record { first = refl; second = refl; both = refl })
two_kinds o (Keys m) (Cache n) = inl (record { first = refl; second = refl; both = refl })
two_kinds o (Keys m) Cost = inl (record { first = refl; second = refl; both = refl })
two_kinds o (Keys m) (Mirror n) = inl (record { first = refl; second = refl; both = refl })
two_kinds o (Block m) (Keys n) = inl (record { first = refl; second = refl; both = refl })
two_kinds o (Block m) (Block n) = inr (record { first = refl; second = refl; same = refl })
two_kinds o (Block m) (Version n) = inl (record { first = refl; second = refl; both = refl })
two_kinds o (Block m) (Cache n) = inl (record { first = refl; second = refl; both = refl })
two_kinds o (Block m) Cost = inl (record { first = refl; second = refl; both = refl })
two_kinds o (Block m) (Mirror n) = inl (record { first = refl; second = refl; both = refl })
two_kinds o (Version m) (Keys n) = inl (record { first = refl; second = refl; both = refl })
two_kinds o (Version m) (Block n) = inl (record { first = refl; second = refl; both = refl })
two_kinds o (Version m) (Version n) = inr (record { first = refl; second = refl; same = refl })
two_kinds o (Version m) (Cache n) = inl (record { first = refl; second = refl; both = refl })
two_kinds o (Version m) Cost = inl (record { first = refl; second = refl; both = refl })
two_kinds o (Version m) (Mirror n) = inl (record { first = refl; second = refl; both = refl })
two_kinds o (Cache m) (Keys n) = inl (record { first = refl; second = refl; both = refl })
two_kinds o (Cache m) (Block n) = inl (record { first = refl; second = refl; both = refl })
two_kinds o (Cache m) (Version n) = inl (record { first = refl; second = refl; both = refl })
two_kinds o (Cache m) (Cache n) = inr (record { first = refl; second = refl; same = refl })
two_kinds o (Cache m) Cost = inl (record { first = refl; second = refl; both = refl })
two_kinds o (Cache m) (Mirror n) = inl (record { first = refl; second = refl; both = refl })
two_kinds o Cost (Keys n) = inl (record { first = refl; second = refl; both = refl })
two_kinds o Cost (Block n) = inl (record { first = refl; second = refl; both = refl })
two_kinds o Cost (Version n) = inl (record { first = refl; second = refl; both = refl })
two_kinds o Cost (Cache n) = inl (record { first = refl; second = refl; both = refl })
two_kinds o Cost Cost = inr (record { first = refl; second = refl; same = refl })
two_kinds o Cost (Mirror n) = inl (record { first = refl; second = refl; both = refl })
two_kinds o (Mirror m) (Keys n) = inl (record { first = refl; second = refl; both = refl })
two_kinds o (Mirror m) (Block n) = inl (record { first = refl; second = refl; both = refl })
two_kinds o (Mirror m) (Version n) = inl (record { first = refl; second = refl; both = refl })
two_kinds o (Mirror m) (Cache n) = inl (record { first = refl; second = refl; both = refl })
two_kinds o (Mirror m) Cost = inl (record { first = refl; second = refl; both = refl })
two_kinds o (Mirror m) (Mirror n) = inr (record { first = refl; second = refl; same = refl })

-- an option where neither of two tests holds
in_turn : Bool → Bool → Options → Option Options
in_turn x y o = if x then None else if y then None else Some o

turns_swap : (x y : Bool) (o : Options) → in_turn x y o ≡ in_turn y x o
unfolding in_turn
turns_swap true true o = refl
turns_swap true false o = refl
turns_swap false true o = refl
turns_swap false false o = refl

turn_refused : (x : Bool) (o : Options) → in_turn x true o ≡ None
unfolding in_turn
turn_refused true o = refl
turn_refused false o = refl

-- two options, one after the other
both_given : Options → Given → Given → Option Options
both_given o a b = option_and_then (λ more. with_given more b) (with_given o a)

after_one : (x : Bool) (o : Options) (b : Given) → option_and_then (λ more. with_given more b) (if x then None else Some o) ≡ in_turn x (was_given o b) (put o b)
unfolding in_turn
after_one true o b = refl
after_one false o b = put_once o b

both_in_turn : (o : Options) (a b : Given) → both_given o a b ≡ in_turn (was_given o a) (was_given (put o a) b) (put (put o a) b)
unfolding both_given
both_in_turn o a b = ap (option_and_then (λ more. with_given more b)) (put_once o a) ∙ after_one (was_given o a) (put o a) b

apart_swap : (o : Options) (a b : Given) → AreApart o a b → both_given o a b ≡ both_given o b a
apart_swap o a b apart =
    let first = apart.first in
    let second = apart.second in
    let both = apart.both in
    cc (both_in_turn o a b, both_in_turn o b a, turns_swap (was_given o a) (was_given o b) (put (put o b) a))

alike_swap : (o : Options) (a b : Given) → AreAlike o a b → both_given o a b ≡ both_given o b a
alike_swap o a b alike =
    let first = alike.first in
    let second = alike.second in
    cc (both_in_turn o a b, both_in_turn o b a, turn_refused (was_given o a) (put (put o a) b), turn_refused (was_given o b) (put (put o b) a))

both_swap : (o : Options) (a b : Given) → both_given o a b ≡ both_given o b a
both_swap o a b = elim (two_kinds o a b) [ inl apart ↦ apart_swap o a b apart | inr alike ↦ alike_swap o a b alike ]

all_after : (given : Given) (givens : List Given) (x : Option Options) → option_and_then (λ more. with_all more (given ∷ givens)) x ≡ option_and_then (λ more. with_all more givens) (option_and_then (λ more. with_given more given) x)
all_after given givens None = refl
all_after given givens (Some o) = refl

all_after_both : (o : Options) (a b : Given) (givens : List Given) → with_all o (a ∷ b ∷ givens) ≡ option_and_then (λ more. with_all more givens) (both_given o a b)
unfolding both_given
all_after_both o a b givens = all_after b givens (with_given o a)

-- two neighbours may change places
pub neighbours_swap : (o : Options) (a b : Given) (givens : List Given) → with_all o (a ∷ b ∷ givens) ≡ with_all o (b ∷ a ∷ givens)
neighbours_swap o a b givens =
    all_after_both o a b givens
    ∙ ap (option_and_then (λ more. with_all more givens)) (both_swap o a b)
    ∙ sym (all_after_both o b a givens)
