use Rattle.std.proofs.Common.{◌≡◌, ap}
use Rattle.cola_store.specs.Store.{Stored, Holds, spent_of, terms_of}
use Rattle.cola_table.specs.Terms.{shape}
use Rattle.cola_table.specs.Replies.{put_reply, put_if_reply, delete_reply}
use Rattle.cola_store.proofs.Rising.{put-kept, put-if-kept, delete-kept, step-calm, search-calm, put-not-failed, put-if-not-failed, delete-not-failed}
use Rattle.cola_store.proofs.laws.calm_stays.Goals as goal

pub returns-clause-puts : goal.returns-clause-puts
returns-clause-puts g c = λ old new m key value result answers faults ticks turn calm.
    put-kept g.D.Device.bytes g.D.Device.counts (λ s. s.account.calm ≡ old.account.calm) new (put_reply result)
    (step-calm g.D.Device.bytes g.D.Device.counts old.account.calm new (put_reply result)
    (put-not-failed (shape (terms_of old)) m key value (Holds g.D.Device.bytes new) result (spent_of g.D.Device.counts old).faults (spent_of g.D.Device.counts new).faults answers faults calm))
    old key (λ mid search s. search-calm g.D.Device.bytes g.D.Device.counts old mid key search s) value turn.0.0

pub returns-clause-conditional_puts : goal.returns-clause-conditional_puts
returns-clause-conditional_puts g c = λ old new m key seen value result answers faults ticks turn calm.
    put-if-kept g.D.Device.bytes g.D.Device.counts (λ s. s.account.calm ≡ old.account.calm) new (put_if_reply result)
    (step-calm g.D.Device.bytes g.D.Device.counts old.account.calm new (put_if_reply result)
    (put-if-not-failed (shape (terms_of old)) m key seen value (Holds g.D.Device.bytes new) result (spent_of g.D.Device.counts old).faults (spent_of g.D.Device.counts new).faults answers faults calm))
    old key (λ mid search s. search-calm g.D.Device.bytes g.D.Device.counts old mid key search s) seen value turn.0.0

pub returns-clause-deletes : goal.returns-clause-deletes
returns-clause-deletes g c = λ old new m key result answers faults ticks turn calm.
    delete-kept g.D.Device.bytes g.D.Device.counts (λ s. s.account.calm ≡ old.account.calm) new (delete_reply result)
    (step-calm g.D.Device.bytes g.D.Device.counts old.account.calm new (delete_reply result)
    (delete-not-failed m key (Holds g.D.Device.bytes new) result (spent_of g.D.Device.counts old).faults (spent_of g.D.Device.counts new).faults answers faults calm))
    old key (λ mid search s. search-calm g.D.Device.bytes g.D.Device.counts old mid key search s) turn.0.0

pub returns-clause-gets : goal.returns-clause-gets
returns-clause-gets g c = λ key old new answer ticks turn. search-calm g.D.Device.bytes g.D.Device.counts old new key turn.0.search turn.0.searches

pub returns-clause-stamps : goal.returns-clause-stamps
returns-clause-stamps g c = λ key old new answer ticks turn. search-calm g.D.Device.bytes g.D.Device.counts old new key turn.0.search turn.0.searches

pub returns-clause-counts : goal.returns-clause-counts
returns-clause-counts g c = λ old new answer ticks turn. ap (λ (s : Stored g.row.D.Denot). s.account.calm) turn.0.1
