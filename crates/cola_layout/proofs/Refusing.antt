-- Why bytes are no spelling: what a spelling's bytes say, and that they say one thing.
use Rattle.std.proofs.Common.{◌≡◌, ℕ, ◌+◌, ◌-◌, ◌*◌, ◌^◌, ◌<◌, ◌≤◌, min, inl, inr, Bool, true, false, cond, List, [], ◌∷◌, ◌++◌, length, take, drop, slice_index, replicate, flat_map, EachIndex, IsTrue, ◌↔◌, refl, sym, ◌∙◌, ap, subst, arith}
use Rattle.std.specs.Prelude.{codes, Option, Some, None, MatchOption}
use Rattle.std.proofs.lemmas.List.{drop_at, length-append, length-drop, length-replicate, get_or-replicate, append_assoc, same_lists, get_or_default, take_rest}
use Rattle.byteorder.specs.Endian.{little_number, little_bytes}
use Rattle.cola_cell.specs.declared.format.Format.{Format}
use Rattle.cola_cell.specs.declared.format.Format.TheVariants.{One, Two}
use Rattle.cola_layout.specs.declared.fault.LayoutFault.{LayoutFault}
use Rattle.cola_layout.specs.declared.fault.LayoutFault.TheVariants.{Keys, Block}
use Rattle.cola_layout.specs.declared.marks.Marks.{Marks}
use Rattle.cola_cell.specs.Format.{stamp_limit}
use Rattle.cola_cell.proofs.Numbers.{AreBytes}
use Rattle.cola_layout.specs.declared.geometry.Geometry.{Geometry}
use Rattle.cola_layout.specs.declared.header.Header.{Header}
use Rattle.cola_layout.specs.Fields.{fields_of, Decodes}
use Rattle.cola_layout.specs.Marks.{AreMarks}
use Rattle.cola_layout.specs.Geometry.{IsBottom, Refuses}
use Rattle.cola_layout.specs.Header.{Fields, IsSound, IsSpelling, IsNoSpelling, head_bytes, marks_bytes, version_of}
use Rattle.cola_layout.specs.Read.{HasFormat, HasGeometry, Says, IsZeroBehind, levels_in}
use Rattle.cola_layout.proofs.Powers.{bottom-is_one}
use Rattle.cola_layout.proofs.Readings.{marks-length}
use Rattle.cola_layout.proofs.Saying.{text-says, text-from, head-length}

-- ---- bytes say one thing

one-format : (a b : Format) → codes "COLASTOR" ++ little_bytes 4 (version_of a) ≡ codes "COLASTOR" ++ little_bytes 4 (version_of b) → a ≡ b
one-format One One h = refl
one-format One Two h = cc
one-format Two One h = cc
one-format Two Two h = refl

one-state : (a b : Bool) → ◌≡◌ {A = ℕ} (cond a 0 1) (cond b 0 1) → a ≡ b
one-state true true h = refl
one-state true false h = cc
one-state false true h = cc
one-state false false h = refl

fields_from : Format → ℕ → ℕ → Bool → ℕ → ℕ → ℕ → ℕ → List Marks → Fields
fields_from o b l c k n t m r = record { format = o; block_exp = b; bottom = l; closed = c; keys = k; count = n; clock = t; last = m; levels = r }

fields-same_from : (o o' : Format) (b b' l l' : ℕ) (c c' : Bool) (k k' n n' t t' m m' : ℕ) (r r' : List Marks) →
    o ≡ o' → b ≡ b' → l ≡ l' → c ≡ c' → k ≡ k' → n ≡ n' → t ≡ t' → m ≡ m' → r ≡ r' → fields_from o b l c k n t m r ≡ fields_from o' b' l' c' k' n' t' m' r'
fields-same_from o o' b b' l l' c c' k k' n n' t t' m m' r r' eo eb el ec ek en et em er = rw (eo, eb, el, ec, ek, en, et, em, er) refl

-- fields that the same bytes say are one
pub says-one : (f g : Fields) (bytes : List ℕ) → Says f bytes → Says g bytes → f ≡ g
unfolding fields_from
says-one f g bytes a b =
    let bottom : f.bottom ≡ g.bottom = a.geometry.bottom_is ∙ sym b.geometry.bottom_is in
    fields-same_from f.format g.format f.block_exp g.block_exp f.bottom g.bottom f.closed g.closed f.keys g.keys f.count g.count f.clock g.clock f.last g.last f.levels g.levels
    (one-format f.format g.format (sym a.geometry.format_is ∙ b.geometry.format_is))
    (a.geometry.block_is ∙ sym b.geometry.block_is)
    bottom
    (one-state f.closed g.closed (a.state ∙ sym b.state))
    (a.geometry.keys_is ∙ sym b.geometry.keys_is)
    (a.count ∙ sym b.count)
    (a.clock ∙ sym b.clock)
    (a.last ∙ sym b.last)
    (a.levels ∙ ap (λ (k : ℕ). levels_in (k + 1) (drop 48 bytes)) bottom ∙ sym b.levels)

-- bytes spell one header
pub spelling-one : (f g : Fields) (bytes : List ℕ) → IsSpelling f bytes → IsSpelling g bytes → f ≡ g
spelling-one f g bytes a b = says-one f g bytes (text-says f bytes a) (text-says g bytes b)

-- ---- zeros

marks-room : (levels : List Marks) → length (flat_map marks_bytes levels) ≡ 20 * length levels
marks-room [] = refl
marks-room (m ∷ levels) =
    let rest : length (flat_map marks_bytes levels) ≡ 20 * length levels = marks-room levels in
    length-append (marks_bytes m) (flat_map marks_bytes levels) ∙ omega (arith, marks-length m, rest)

-- behind the marks of a spelling are zeros
pub text-zeros : (f : Fields) (bytes : List ℕ) → IsSpelling f bytes → IsZeroBehind (f.bottom + 1) bytes
text-zeros f bytes s =
    let levels : length f.levels ≡ f.bottom + 1 = s.sound.one_each in
    let front : length (head_bytes f ++ flat_map marks_bytes f.levels) ≡ 48 + 20 * length f.levels =
    length-append (head_bytes f) (flat_map marks_bytes f.levels) ∙ omega (arith, head-length f, marks-room f.levels) in
    let group : bytes ≡ (head_bytes f ++ flat_map marks_bytes f.levels) ++ replicate (464 - 20 * length f.levels) 0 =
    s.text ∙ sym (append_assoc (head_bytes f) (flat_map marks_bytes f.levels) (replicate (464 - 20 * length f.levels) 0)) in
    let at : drop (48 + 20 * length f.levels) bytes ≡ replicate (464 - 20 * length f.levels) 0 =
    ap (drop (48 + 20 * length f.levels)) group ∙ drop_at (head_bytes f ++ flat_map marks_bytes f.levels) (replicate (464 - 20 * length f.levels) 0) (48 + 20 * length f.levels) front in
    subst (λ (n : ℕ). IsZeroBehind n bytes) levels at

-- a list of zeros, item by item
pub zeros-from_each : (n : ℕ) (xs : List ℕ) → length xs ≡ n → EachIndex xs (λ k. slice_index xs k ≡ 0) → xs ≡ replicate n 0
zeros-from_each n xs size each =
    same_lists xs (replicate n 0) (size ∙ sym (length-replicate n 0))
    (λ k d within. get_or_default xs k d 0 within ∙ each k within ∙ sym (get_or-replicate n k 0 d (omega arith)))

pub zeros-each : (n : ℕ) (xs : List ℕ) → xs ≡ replicate n 0 → EachIndex xs (λ k. slice_index xs k ≡ 0)
zeros-each n xs is k within =
    let size : length xs ≡ n = ap length is ∙ length-replicate n 0 in
    ap (λ (ys : List ℕ). slice_index ys k) is ∙ get_or-replicate n k 0 0 (omega arith)

-- the test of the bytes behind the marks
pub zero-behind : (n : ℕ) (bytes : List ℕ) (r : Bool) → length bytes ≡ 512 → n ≤ 23 →
    IsTrue r ↔ EachIndex (take (length bytes - (48 + 20 * n)) (drop (48 + 20 * n) bytes)) (λ k. slice_index (take (length bytes - (48 + 20 * n)) (drop (48 + 20 * n) bytes)) k ≡ 0) →
    IsTrue r ↔ IsZeroBehind n bytes
zero-behind n bytes r size few tests =
    let all : take (length bytes - (48 + 20 * n)) (drop (48 + 20 * n) bytes) ≡ drop (48 + 20 * n) bytes = take_rest bytes (48 + 20 * n) in
    let room : length (drop (48 + 20 * n) bytes) ≡ 464 - 20 * n = length-drop (48 + 20 * n) bytes ∙ omega arith in
    let of_rest = rw all at tests in (
      (λ yes. zeros-from_each (464 - 20 * n) (drop (48 + 20 * n) bytes) room (of_rest.0 yes)),
      (λ zeros. of_rest.1 (zeros-each (464 - 20 * n) (drop (48 + 20 * n) bytes) zeros)),
    )

-- ---- bytes that are no spelling

module _ (bytes : List ℕ) where
  pub no-format : ((format : Format) → ¬ HasFormat format bytes) → IsNoSpelling bytes
  no-format h f s = h f.format (text-says f bytes s).geometry.format_is

  pub no-zero : (slice_index bytes 15 ≡ 0 → ⊥) → IsNoSpelling bytes
  no-zero h f s = h (text-says f bytes s).geometry.zero_is

  pub no-state : ((closed : Bool) → cond closed 0 1 ≡ slice_index bytes 14 → ⊥) → IsNoSpelling bytes
  no-state h f s = h f.closed (text-says f bytes s).state

  pub no-bottom : (keys bottom : ℕ) → keys ≡ little_number 8 (drop 16 bytes) → IsBottom keys bottom → (bottom ≡ slice_index bytes 13 → ⊥) → IsNoSpelling bytes
  no-bottom keys bottom keys_is is h f s =
      let says = text-says f bytes s in
      let same : f.keys ≡ keys = says.geometry.keys_is ∙ sym keys_is in
      let theirs : IsBottom keys f.bottom = subst (λ (k : ℕ). IsBottom k f.bottom) same s.sound.bottom_fits in
      h (bottom-is_one keys bottom f.bottom is theirs ∙ says.geometry.bottom_is)

  refused : (f : Fields) (fault : LayoutFault) → IsSound f → Refuses f.keys f.block_exp fault → ⊥
  refused f Keys sound h = elim h [ inl none ↦ (let some : 1 ≤ f.keys = sound.keys_in_range.some in omega arith) | inr many ↦ (let few : f.keys ≤ 2 ^ 24 = sound.keys_in_range.few in omega arith) ]
  refused f Block sound h =
      let (keys, (bottom, is, wrong)) = h in
      let same : bottom ≡ f.bottom = bottom-is_one f.keys bottom f.bottom is sound.bottom_fits in
      let fits : f.block_exp ≤ min 9 (f.bottom + 2) = sound.block_fits.fits in
      elim wrong [ inl low ↦ (let group : 3 ≤ f.block_exp = sound.block_fits.group in omega arith) | inr high ↦ omega arith ]

  pub no-geometry : (keys block : ℕ) (fault : LayoutFault) → keys ≡ little_number 8 (drop 16 bytes) → block ≡ slice_index bytes 12 → Refuses keys block fault → IsNoSpelling bytes
  no-geometry keys block fault keys_is block_is h f s =
      let says = text-says f bytes s in
      let k : keys ≡ f.keys = keys_is ∙ sym says.geometry.keys_is in
      let b : block ≡ f.block_exp = block_is ∙ sym says.geometry.block_is in
      refused f fault s.sound (rw (k, b) at h)

  -- what the bytes say breaks a rule
  pub no-rule : (said : Fields) → Says said bytes → (IsSound said → ⊥) → IsNoSpelling bytes
  no-rule said says broken f s = broken (subst IsSound (says-one f said bytes (text-says f bytes s) says) s.sound)

  -- a byte behind the marks is not zero
  pub no-end : (said : Fields) → Says said bytes → (IsZeroBehind (said.bottom + 1) bytes → ⊥) → IsNoSpelling bytes
  no-end said says broken f s =
      broken (subst (λ (g : Fields). IsZeroBehind (g.bottom + 1) bytes) (says-one f said bytes (text-says f bytes s) says) (text-zeros f bytes s))

-- ---- what was read of the bytes

-- the fields that were read
abbrev pub said : Geometry → Bool → ℕ → ℕ → ℕ → List Marks → Fields
said g closed count clock last levels = record {
  format = g.format;
  block_exp = g.block_exp;
  bottom = g.bottom;
  closed = closed;
  keys = g.keys;
  count = count;
  clock = clock;
  last = last;
  levels = levels;
}

module _ (g : Geometry) (closed : Bool) (count clock last : ℕ) (levels : List Marks) (bytes : List ℕ) where
  pub says-said : HasGeometry g.format g.block_exp g.bottom g.keys bytes → cond closed 0 1 ≡ slice_index bytes 14 →
      count ≡ little_number 8 (drop 24 bytes) → clock ≡ little_number 8 (drop 32 bytes) → last ≡ little_number 8 (drop 40 bytes) →
      levels ≡ levels_in (g.bottom + 1) (drop 48 bytes) → Says (said g closed count clock last levels) bytes
  says-said geometry state count_is clock_is last_is levels_are =
      record { geometry = geometry; state = state; count = count_is; clock = clock_is; last = last_is; levels = levels_are }

  -- the bytes spell what was read of them
  pub spells-said : length bytes ≡ 512 → AreBytes bytes → Says (said g closed count clock last levels) bytes → IsZeroBehind (g.bottom + 1) bytes →
      count ≤ g.keys → clock < 2 ^ (g.bottom + 1) → last ≤ stamp_limit g.format → length levels ≡ g.bottom + 1 → AreMarks clock levels →
      IsSpelling (said g closed count clock last levels) bytes
  spells-said size small says zeros count_fits clock_fits last_fits one_each marks_fit = record {
    text = text-from (said g closed count clock last levels) bytes size small one_each g.shallow says zeros;
    sound = record {
      keys_in_range = g.keys_in_range;
      bottom_fits = g.bottom_fits;
      block_fits = g.block_fits;
      count_fits = count_fits;
      clock_fits = clock_fits;
      last_fits = last_fits;
      one_each = one_each;
      marks_fit = marks_fit;
    };
  }

-- ---- decoding and encoding

-- a header has one spelling
pub text-one : (f : Fields) (a b : List ℕ) → IsSpelling f a → IsSpelling f b → a ≡ b
text-one f a b first second = first.text ∙ sym second.text

-- what a spelling decodes to
pub decodes-back : (h : Header) (bytes : List ℕ) (answer : Option Header) → IsSpelling (fields_of h) bytes → Decodes bytes answer →
    MatchOption answer ⊥ (λ g. fields_of g ≡ fields_of h)
decodes-back h bytes None spelled none = none (fields_of h) spelled
decodes-back h bytes (Some g) spelled found = spelling-one (fields_of g) (fields_of h) bytes found spelled
