use Rattle.std.proofs.Common.{◌≡◌, ◌≤◌, ◌+◌, ℕ, List, Option, Result, Ok, Err, sym, ap, subst, ◌∙◌}
use Rattle.std.specs.Prelude.{IfSome, OnOk}
use Rattle.cola_cell.specs.declared.sink.Shadow.{Shadow}
use Rattle.cola_cell.specs.Flat.{shadow_at}
use Rattle.cola_layout.specs.declared.geometry.Geometry.{Geometry}
use Rattle.cola_run.specs.Cells.{Lower, AreCells}
use Rattle.cola_run.specs.Store.{Store, cells_of, lower_of, held_of}
use Rattle.cola_run.specs.Saving.{AreFileSpots, header_shadow}
use Rattle.std.proofs.lemmas.List.{with_items_is}
use Rattle.std.specs.Vec.{with_items}
use Rattle.cola_front.specs.Front.{IsLoaded as IsFrontLoaded}
use Rattle.cola_run.specs.Loading.{StaySound, AreSavedBelow}
use Rattle.cola_run.proofs.Heads.{saved-told}
use Rattle.cola_run.proofs.Sinks.{shape-with}
use Rattle.cola_run.proofs.Views.{store_of, lent-back}
use Rattle.cola_run.proofs.run_store.RunStore.load.Goals as goal

-- a fact is one on Ok
on-both : {T E P Q R : Type 0} (result : Result T E) → (P → Q → R) → OnOk result P → OnOk result Q → OnOk result R
on-both (Ok x) f p q = f p q
on-both (Err e) f p q = tt

-- the store after a load
abbrev after : (g : _) (c : goal.After-self-1 g) → Store g.row.D.Denot
after g c = record (store_of c.self.inside) {
  buffers = c.load_parts.new.buffers;
  front = c.load_parts.new.front;
  shadows = (with_items c.self.inside.shadows.items c.load_parts.new.shadows).items;
  tails = c.load_parts.new.tails;
}

shadows-are : (g : _) (c : goal.After-self-1 g) → (after g c).shadows ≡ c.load_parts.new.shadows
shadows-are g c = with_items_is c.self.inside.shadows.items c.load_parts.new.shadows (c.load_parts.auto.shadows ∙ c.deref_mut.ensures.len)

-- its cells are such as a store may have
cells : (g : _) (c : goal.After-self-1 g) → AreCells (cells_of (g.D.Device.bytes c.load_parts.new.buffers.cache.device) (after g c))
cells g c =
    let i = c.self.inside in
    let old = store_of i in
    let now = after g c in
    let lower : List Shadow → List ℕ → Lower = lower_of g.D.Device.bytes i.buffers in
    let lower_now : List Shadow → List ℕ → Lower = lower_of g.D.Device.bytes now.buffers in
    let stays : StaySound i.geometry (lower old.shadows old.tails) (lower_now now.shadows now.tails) =
    lent-back (λ xs ys. StaySound i.geometry (lower xs old.tails) (lower_now ys now.tails)) c.deref_mut.ensures.value (shadows-are g c) c.load_parts.ensures.sound in
    record {
      shape = shape-with c.load_parts.ensures.shape.format c.load_parts.ensures.shape.block (stays.shape i.front c.self.invariant.cells.shape);
      backed = stays.backed i.front c.self.invariant.cells.shape c.self.invariant.cells.backed;
    }

pub invariant_of-self : goal.invariant_of-self
invariant_of-self g c = record {
  cells = cells g c;
  size = c.load_parts.ensures.stays.size ∙ c.self.invariant.size;
  many = c.load_parts.ensures.stays.many ∙ c.self.invariant.many;
  buffers_many = c.load_parts.ensures.lasts ∙ c.self.invariant.buffers_many;
}

pub returns-clause-loaded : goal.returns-clause-loaded
returns-clause-loaded g c =
    let i = c.self.inside in
    let told = g.D.Device.bytes in
    let now = after g c in
    let shadows : List Shadow = now.shadows in
    let back : shadows ≡ c.load_parts.new.shadows = shadows-are g c in
    let lower_now : Lower = lower_of told now.buffers shadows now.tails in
    let there_cells = cells g c in
    let geometry : c.args.header.now.geometry ≡ i.geometry = c.requires ∙ ap (λ (s : Store _). s.geometry) (sym c.self.view_is) in
    on-both c.load_parts.result
    (λ front headed.
    let there : (level : ℕ) → level ≤ i.geometry.bottom → shadow_at shadows level ≡ header_shadow c.args.header.now level = λ level low. ap (λ (xs : List Shadow). shadow_at xs level) back ∙ headed level low in
    let saved : AreSavedBelow i.geometry shadows (i.geometry.bottom + 1) = λ level on below. ap (λ (x : Shadow). x.saved) (there level on.within) in
    let spots : IfSome (told c.load_parts.new.buffers.cache.device) (AreFileSpots i.geometry (held_of told now).spots) =
    saved-told i.geometry c.load_parts.new.front lower_now there_cells.shape there_cells.backed saved (subst (λ (x : Option (List ℕ)). IfSome x (λ bytes. IsFrontLoaded bytes c.load_parts.new.front)) (sym c.load_parts.ensures.bytes_stay) front) in
    record {
      spots = subst (λ (s : Store _). IfSome (told s.buffers.cache.device) (AreFileSpots c.args.header.now.geometry (held_of told now).spots)) c.self.view_is
          (subst (λ (x : Geometry). IfSome (told i.buffers.cache.device) (AreFileSpots x (held_of told now).spots)) (sym geometry)
          (subst (λ (x : Option (List ℕ)). IfSome x (AreFileSpots i.geometry (held_of told now).spots)) c.load_parts.ensures.bytes_stay spots));
      shadows = λ level low. there level (subst (λ (x : Geometry). level ≤ x.bottom) geometry low);
    })
    c.load_parts.ensures.front c.load_parts.ensures.shadows
