-- One call more, behind calls that were made one after another.
use Rattle.std.proofs.Common.{◌≡◌, ◌∙◌, ℕ, ◌+◌, ◌-◌, ◌*◌, ◌/◌, ◌<◌, ◌≤◌, if◌then◌else◌, List, [], ◌∷◌, ◌++◌, length, take, get_or, Result, Ok, Err, refl, sym, ap, subst, arith, length-append, length-take}
use Rattle.std.specs.Prelude.{is_ok, IsOk}
use Rattle.std.proofs.lemmas.List.{take_more}
use Rattle.std.proofs.lemmas.List.Elements.{All-push}
use Rattle.std.proofs.lemmas.List.Sums.{sum_by_push}
use Rattle.std.proofs.lemmas.Nat.{le-div, pow_pos}
use Rattle.std.proofs.Math.Nat.{div-mul-le_self, mul-le-mul_right}
use Rattle.cola_outside.specs.Faults.{Rose}
use Rattle.cola_device.specs.declared.device.Device as device
use Rattle.cola_layout.specs.declared.geometry.Geometry.{Geometry}
use Rattle.cola_run.specs.Cells.{block_cells}
use Rattle.cola_spec.specs.Bounds.{command_bound}
use Rattle.cola_spec.specs.Map.{Shape, Map}
use Rattle.cola_shapes.specs.Shapes as shapes
use Rattle.cola_kv.specs.declared.error.Error.{Error}
use Rattle.cola_kv.specs.declared.error.Error.TheVariants.{Device}
use Rattle.cola_kv.specs.declared.list.Answer.{Answer}
use Rattle.cola_kv.specs.declared.list.Call.{Call}
use Rattle.cola_kv.specs.declared.kv.Kv.{Kv}
use Rattle.cola_kv.specs.Kv.{Holds, Stays, shape_of, faults_of, steps_of, geometry_of, levels_of, WritesWithin}
use Rattle.cola_kv.proofs.Answered.{stays-same}
use Rattle.cola_kv.specs.Listed.{command_of, IsAnswered, AreAnswered, map_after, last_map, most_ticks, Carries, CarriesAll, Start, Then}

module _ (shape : Shape) where
  answered-more : (m : Map) (calls : List Call) (results : List (Result Answer Error)) (call : Call) (result : Result Answer Error) → AreAnswered shape m calls results → IsAnswered shape (last_map shape m calls results) call result →
      AreAnswered shape m (calls ++ call ∷ []) (results ++ result ∷ [])
  answered-more m [] [] call result all one = (one, tt)
  answered-more m [] (r ∷ rs) call result all one = absurd all
  answered-more m (c ∷ cs) [] call result all one = absurd all
  answered-more m (c ∷ cs) (r ∷ rs) call result all one = (all.0, answered-more (map_after shape m c r) cs rs call result all.1 one)

  last-more : (m : Map) (calls : List Call) (results : List (Result Answer Error)) (call : Call) (result : Result Answer Error) → AreAnswered shape m calls results →
      last_map shape m (calls ++ call ∷ []) (results ++ result ∷ []) ≡ map_after shape (last_map shape m calls results) call result
  last-more m [] [] call result all = refl
  last-more m [] (r ∷ rs) call result all = absurd all
  last-more m (c ∷ cs) [] call result all = absurd all
  last-more m (c ∷ cs) (r ∷ rs) call result all = last-more (map_after shape m c r) cs rs call result all.1

-- a count that rose over the second of two spans rose over both, and one that rose over the first did
rose-later : (a b c : ℕ) → a ≤ b → Rose b c → Rose a c
rose-later a b c h rose = omega (arith, h, rose)

rose-sooner : (a b c : ℕ) → b ≤ c → Rose a b → Rose a c
rose-sooner a b c h rose = omega (arith, h, rose)

module _ {D : Type 0} (d : device.Ghosts D) where
  pub shape-stays : (old new : Kv D d) → Stays d old new → shape_of new ≡ shape_of old
  shape-stays old new stays = ap (λ (g : Geometry). shapes.shape_of g.format g.keys) stays.geometry_is

  stays-longer : (old mid new : Kv D d) → Stays d old mid → Stays d mid new → Stays d old new
  stays-longer old mid new first second =
      let a = first.faults_stay in
      let b = second.faults_stay in
      record {
        geometry_is = second.geometry_is ∙ first.geometry_is;
        cache_is = second.cache_is ∙ first.cache_is;
        opened_is = second.opened_is ∙ first.opened_is;
        kept = second.kept ∙ first.kept;
        faults_stay = omega (arith, a, b);
      }

  pub none-yet : (kv : Kv D d) → Stays d kv kv → CarriesAll d kv kv [] []
  none-yet kv stays = record {
    made = Start;
    many = refl;
    answers = λ m holds. tt;
    map = λ m holds. holds;
    faults = λ k x h. absurd (omega (arith, h));
    steps = omega arith;
    stays = stays;
  }

  module _ (old mid new : Kv D d) (calls : List Call) (results : List (Result Answer Error)) (call : Call) (result : Result Answer Error) where
    pub carries-more : CarriesAll d old mid calls results → Carries d mid new call result → CarriesAll d old new (calls ++ call ∷ []) (results ++ result ∷ [])
    carries-more all one =
        let shape = shape-stays old mid all.stays in
        let a = all.stays.faults_stay in
        let b = one.stays.faults_stay in
        let n = all.steps in
        let k = one.one_step in
        let many = length-append calls (call ∷ []) in
        let results_many = length-append results (result ∷ []) in
        let was = all.many in
        record {
          made = Then call result all.made one;
          many = omega (arith, many, results_many, was);
          answers = λ m holds.
              answered-more (shape_of old) m calls results call result (all.answers m holds)
              (subst (λ (s : Shape). IsAnswered s (last_map (shape_of old) m calls results) call result) shape (one.answer (last_map (shape_of old) m calls results) (all.map m holds)));
          map = λ m holds.
              subst (λ (n : Map). Holds d new n) (sym (last-more (shape_of old) m calls results call result (all.answers m holds)))
              (subst (λ (s : Shape). Holds d new (map_after s (last_map (shape_of old) m calls results) call result)) shape (one.map (last_map (shape_of old) m calls results) (all.map m holds)));
          faults = All-push (λ (r : Result Answer Error). r ≡ Err Device → Rose (faults_of d old) (faults_of d new)) results result
              (λ k x h is. rose-sooner (faults_of d old) (faults_of d mid) (faults_of d new) b (all.faults k x h is))
              (λ is. rose-later (faults_of d old) (faults_of d mid) (faults_of d new) a (one.fault is));
          steps = omega (arith, n, k, many);
          stays = stays-longer old mid new all.stays one.stays;
        }

  -- calls of a list were made up to a place, with these results
  pub record Progress (old now : Kv D d) (calls : List Call) (done : ℕ) (results : List (Result Answer Error)) (before steps : ℕ) : Type 0 where
    pub carries : CarriesAll d old now (take done calls) results
    pub ticks : steps ≤ before + most_ticks (levels_of old) (take done calls)

  -- no call was made yet
  pub progress-none : (kv : Kv D d) (calls : List Call) (results : List (Result Answer Error)) (steps : ℕ) → results ≡ [] → Progress kv kv calls 0 results steps steps
  progress-none kv calls results steps is = subst (λ (rs : List (Result Answer Error)). Progress kv kv calls 0 rs steps steps) (sym is) (record { carries = none-yet kv (stays-same d kv); ticks = omega arith })

  -- one call more
  pub progress-more : (old mid new : Kv D d) (calls : List Call) (done : ℕ) (results : List (Result Answer Error)) (before steps steps' : ℕ) (call : Call) (result : Result Answer Error) → done < length calls → call ≡ get_or calls done call →
      Progress old mid calls done results before steps → Carries d mid new call result → steps' ≤ steps + command_bound (levels_of mid) (command_of call) → Progress old new calls (done + 1) (results ++ result ∷ []) before steps'
  progress-more old mid new calls done results before steps steps' call result within is progress one ticks =
      let more : take (done + 1) calls ≡ take done calls ++ call ∷ [] = take_more calls done call within ∙ ap (λ (c : Call). take done calls ++ c ∷ []) (sym is) in
      let same : levels_of mid ≡ levels_of old = ap (λ (g : Geometry). g.bottom + 1) progress.carries.stays.geometry_is in
      let sum = sum_by_push (λ (c : Call). command_bound (levels_of old) (command_of c)) (take done calls) call in
      let bound : command_bound (levels_of mid) (command_of call) ≡ command_bound (levels_of old) (command_of call) = ap (λ (n : ℕ). command_bound n (command_of call)) same in
      let was = progress.ticks in
      record {
        carries = subst (λ (cs : List Call). CarriesAll d old new cs (results ++ result ∷ [])) (sym more) (carries-more old mid new (take done calls) results call result progress.carries one);
        ticks = subst (λ (cs : List Call). steps' ≤ before + most_ticks (levels_of old) cs) (sym more) (omega (arith, was, ticks, bound, sum));
      }

  pub progress-steps : (old now : Kv D d) (calls : List Call) (done : ℕ) (results : List (Result Answer Error)) (before steps : ℕ) → Progress old now calls done results before steps → steps_of now ≤ steps_of old + length calls
  progress-steps old now calls done results before steps p =
      let some = p.carries.steps in
      let few = length-take done calls in
      omega (arith, some, few)

-- more parts for more
parts-more : (a b size : ℕ) → 0 < size → a ≤ b → a / size ≤ b / size
parts-more a b size some h = le-div (a / size) b size some (omega (arith, h, div-mul-le_self a size))

module _ {D : Type 0} (d : device.Ghosts D) where
  -- a bound on writes for so many steps holds for more
  pub within-more : (kv : Kv D d) (few many : ℕ) → few ≤ many → WritesWithin d few kv → WritesWithin d many kv
  within-more kv few many h within =
      let size = block_cells (geometry_of kv) in
      let cells : 4 * (few * levels_of kv) + (size - 1) ≤ 4 * (many * levels_of kv) + (size - 1) = let k = mul-le-mul_right (levels_of kv) h in omega (arith, k) in
      let more = parts-more _ _ size (pow_pos (geometry_of kv).block_exp) cells in
      omega (arith, within, more)

-- what was pushed with room to spare stands at the end
pub pushed : {X E : Type 0} (result : Result (Unit {0}) E) (old new : List X) (x : X) → IsOk result → new ≡ (if is_ok result then old ++ x ∷ [] else old) → new ≡ old ++ x ∷ []
pushed (Ok u) old new x ok is = is
pushed (Err e) old new x ok is = cc

pub pushed-len : {E : Type 0} (result : Result (Unit {0}) E) (old new place : ℕ) → IsOk result → new ≡ (if is_ok result then old + 1 else old) → old ≡ place → new ≡ place + 1
pushed-len (Ok u) old new place ok is at = omega (arith, is, at)
pushed-len (Err e) old new place ok is at = cc
