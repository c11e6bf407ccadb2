use Rattle.std.proofs.Common.{◌≡◌, ℕ, List, length, take, drop, min, Ok, Err, subst, arith}
use Rattle.std.proofs.lemmas.Result.{err_from_is_err_and}
use Rattle.cola_filedev.specs.Work.{Put, Written, elsewhere, header_last, not_synced, not_behind}
use Rattle.cola_filedev.proofs.Pieces.{header-part, behind-part}
use Rattle.cola_filedev.proofs.handle.write.Goals as goal

pub returns-then-at-gt0 : goal.returns-then-at-gt0
returns-then-at-gt0 g c = elsewhere (omega (arith, c.if-at-gt0.true)) c.put.ensures

pub returns-in_err-put : goal.returns-in_err-put
returns-in_err-put g c =
    let p = err_from_is_err_and c.from_residual.result c.from_residual.ensures.1 in
    let first : 0 ≡ c.args.at = omega (arith, c.if-at-gt0.false) in
    let behind : c.split_at.result.1.now ≡ drop 512 c.args.from.now = behind-part c.args.from.now c.min.result (omega (arith, c.min.ensures)) c.split_at.result.1.now c.split_at.ensures.back in
    rw (p.1, p.2) (subst (λ (at : ℕ). Written g.F.OpenedFile.took g.F.OpenedFile.synced c.args.file.now at c.args.from.now (Err c.in_err-put.field-0.0) c.put-2.new.file) first
    (not_behind (subst (λ (xs : List ℕ). Put g.F.OpenedFile.took c.args.file.now 512 xs (Err c.in_err-put.field-0.0) c.put-2.new.file) behind c.in_err-put.ensures)))

pub returns-in_err-sync : goal.returns-in_err-sync
returns-in_err-sync g c =
    let p = err_from_is_err_and c.from_residual-in_err-sync.result c.from_residual-in_err-sync.ensures.1 in
    let first : 0 ≡ c.args.at = omega (arith, c.if-at-gt0.false) in
    let behind : c.split_at.result.1.now ≡ drop 512 c.args.from.now = behind-part c.args.from.now c.min.result (omega (arith, c.min.ensures)) c.split_at.result.1.now c.split_at.ensures.back in
    rw (p.1, p.2) (subst (λ (at : ℕ). Written g.F.OpenedFile.took g.F.OpenedFile.synced c.args.file.now at c.args.from.now (Err c.in_err-sync.field-0.0) c.sync.new.self) first
    (not_synced (subst (λ (xs : List ℕ). Put g.F.OpenedFile.took c.args.file.now 512 xs (Ok tt) c.put-2.new.file) behind c.in_ok-put.ensures) c.in_err-sync.ensures))

pub returns : goal.returns
returns g c =
    let first : 0 ≡ c.args.at = omega (arith, c.if-at-gt0.false) in
    let is : c.min.result ≡ min (length c.args.from.now) 512 = omega (arith, c.min.ensures) in
    let behind : c.split_at.result.1.now ≡ drop 512 c.args.from.now = behind-part c.args.from.now c.min.result is c.split_at.result.1.now c.split_at.ensures.back in
    let header : c.split_at.result.0.now ≡ take 512 c.args.from.now = header-part c.args.from.now c.min.result is c.split_at.result.0.now c.split_at.ensures.front in
    subst (λ (at : ℕ). Written g.F.OpenedFile.took g.F.OpenedFile.synced c.args.file.now at c.args.from.now c.put-3.result c.put-3.new.file) first
    (header_last (subst (λ (xs : List ℕ). Put g.F.OpenedFile.took c.args.file.now 512 xs (Ok tt) c.put-2.new.file) behind c.in_ok-put.ensures) c.in_ok-sync.ensures
    (subst (λ (xs : List ℕ). Put g.F.OpenedFile.took c.sync.new.self 0 xs c.put-3.result c.put-3.new.file) header c.put-3.ensures))
