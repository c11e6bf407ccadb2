use Rattle.cola_cache.proofs.cached.Cached.touch.Goals as goal

pub returns-clause-stay : goal.returns-clause-stay
returns-clause-stay g c = λ other absent. rw (← c.self.view_is) (c.touch.ensures.stay other absent)
