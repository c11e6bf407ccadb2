-- Lists of lines, line by line.
use Rattle.std.proofs.Common.{◌≡◌, inl, inr, ℕ, zero, suc, ◌+◌, ◌≤◌, ◌<◌, List, [], ◌∷◌, ◌++◌, length, drop, take, set, get_or, Option, None, Some, Result, Ok, Err, IfErr, IsErrAnd, refl, sym, ap, subst, ◌∙◌, arith, length-append, Bool}
use Rattle.std.proofs.Math.Seq.{take-length}
use Rattle.std.proofs.lemmas.List.{take-append-le, drop_more}
use Rattle.std.specs.Option.{option_or}
use Rattle.std.specs.List.{AllByRecursion, refill}
use Rattle.cola_cell.specs.declared.cell.Item.{Item}
use Rattle.cola_cell.specs.declared.fault.ReadFault.{ReadFault}
use Rattle.cola_cell.specs.declared.fault.ReadFault.TheVariants.{Device, BadCell}
use Rattle.cola_cell.specs.Held.{Held}
use Rattle.cola_cursor.specs.declared.line.Line.{Line}
use Rattle.cola_cursor.specs.Lines.{LineFits, IsReady, left_of, all_left, LineCause}
use Rattle.cola_cursor.specs.Passing.{Passes, PassAll}
use Rattle.cola_cursor.specs.Results.{Fetches, FetchAll, HasBadLine, LinesCause}
use Rattle.cola_cursor.proofs.Fronts.{or_none}

module _ (falls : Bool) where
  module _ {X : Type 0} where
    pub all_at : (P : X → Type 0) (xs : List X) (i : ℕ) (d : X) → i < length xs → AllByRecursion P xs → P (get_or xs i d)
    all_at P [] i d l h = absurd (omega arith)
    all_at P (x ∷ xs) zero d l h = h.0
    all_at P (x ∷ xs) (suc i) d l h = all_at P xs i d (omega arith) h.1

    pub left_next : (xs : List X) (i : ℕ) (x : X) → i < length xs → x ≡ get_or xs i x → drop i xs ≡ x ∷ drop (i + 1) xs
    left_next xs i x l e = drop_more xs i x l ∙ ap (λ y. y ∷ drop (i + 1) xs) (sym e)

    -- a list that takes the place of another as long
    pub refilled : (xs ws : List X) → length ws ≡ length xs → refill (length xs) xs ws ≡ ws
    refilled xs ws h = take-append-le (length xs) ws (drop (length ws) xs) (omega (arith, h)) ∙ ap (λ n. take n ws) (sym h) ∙ take-length ws

  -- ---- fetched lines

  pub fetch_push : (held : Held) (olds news : List Line) (old new : Line) → FetchAll falls held olds news → Fetches falls held old new → FetchAll falls held (olds ++ old ∷ []) (news ++ new ∷ [])
  fetch_push held [] [] old new h f = (f, tt)
  fetch_push held [] (n ∷ news) old new h f = absurd h
  fetch_push held (o ∷ olds) [] old new h f = absurd h
  fetch_push held (o ∷ olds) (n ∷ news) old new h f = (h.0, fetch_push held olds news old new h.1 f)

  -- lines that were read before
  pub fetch_none : (held : Held) (lines : List Line) → AllByRecursion (LineFits falls held) lines → AllByRecursion IsReady lines → FetchAll falls held lines lines
  fetch_none held [] f r = tt
  fetch_none held (x ∷ xs) f r = (record { run_is = refl; place_is = refl; keeps = λ cell h. h; fits = f.0; ready = r.0 }, fetch_none held xs f.1 r.1)

  -- ---- passed lines

  or_joined : {X : Type 0} (a b c : Option X) → option_or (option_or a b) c ≡ option_or a (option_or b c)
  or_joined None b c = refl
  or_joined (Some x) b c = refl

  pub pass_push : (held : Held) (key : List ℕ) (olds news : List Line) (old new : Line) (item more : Option Item) → PassAll falls held key olds news item → Passes falls held key old new more →
      PassAll falls held key (olds ++ old ∷ []) (news ++ new ∷ []) (option_or item more)
  pass_push held key [] [] old new item more h p = (more, None, p, refl, ap (λ x. option_or x more) h ∙ sym (or_none falls more))
  pass_push held key [] (n ∷ news) old new item more h p = absurd h
  pass_push held key (o ∷ olds) [] old new item more h p = absurd h
  pass_push held key (o ∷ olds) (n ∷ news) old new item more h p =
      (h.0, option_or h.1 more, h.2, pass_push held key olds news old new h.1 more h.3 p, ap (λ x. option_or x more) h.4 ∙ or_joined h.0 h.1 more)

  -- ---- what is left of lines

  pub left_append : (xs : List Line) (x : Line) → all_left (xs ++ x ∷ []) ≡ all_left xs + left_of x
  left_append [] x = omega arith
  left_append (y ∷ xs) x = let r = left_append xs x in omega arith

  pub left_split : (lines : List Line) (i : ℕ) → all_left (take i lines) + all_left (drop i lines) ≡ all_left lines
  left_split [] zero = omega arith
  left_split [] (suc i) = omega arith
  left_split (x ∷ lines) zero = omega arith
  left_split (x ∷ lines) (suc i) = let r = left_split lines i in omega arith

  -- what is left of one line, and of the others
  pub left_at : (lines : List Line) (i : ℕ) (d new : Line) → i < length lines → (rest : ℕ) × (all_left lines ≡ left_of (get_or lines i d) + rest) × (all_left (set lines i new) ≡ left_of new + rest)
  left_at [] i d new l = absurd (omega arith)
  left_at (x ∷ xs) zero d new l = (all_left xs, refl, refl)
  left_at (x ∷ xs) (suc i) d new l = let r = left_at xs i d new (omega arith) in let a = r.1 in let b = r.2 in (left_of x + r.0, omega (arith, a), omega (arith, b))

  -- ---- causes

  pub bad_at : (held : Held) (lines : List Line) (i : ℕ) (d : Line) (before now : ℕ) (fault : ReadFault) → i < length lines → LineCause falls held (get_or lines i d) before now fault → LinesCause falls held lines before now fault
  bad_at held lines i d before now Device l c = c
  bad_at held lines i d before now (BadCell number) l c = go lines i l c
    where
      go : (lines : List Line) (i : ℕ) → i < length lines → LineCause falls held (get_or lines i d) before now (BadCell number) → HasBadLine falls held number lines
      go [] i l c = absurd (omega arith)
      go (x ∷ lines) zero l c = inl c
      go (x ∷ lines) (suc i) l c = inr (go lines i (omega arith) c)

  pub refused : {T : Type 0} (result : Result T ReadFault) (fault : ReadFault) (P : ReadFault → Type 0) → IsErrAnd result (λ e. e ≡ fault) → P fault → IfErr result P
  refused (Ok t) fault P e p = absurd e
  refused (Err f) fault P e p = subst P (sym e) p

  -- the cause of a refusal at one line of a list
  pub cause_at : (held object : Held) (lines : List Line) (i : ℕ) (line : Line) (before between now : ℕ) (fault : ReadFault) → held ≡ object → between ≡ before → i < length lines → line ≡ get_or lines i line →
      LineCause falls held line between now fault → LinesCause falls object lines before now fault
  cause_at held object lines i line before between now fault e c l is h =
      let a : LineCause falls object line between now fault = subst (λ (x : Held). LineCause falls x line between now fault) e h in
      let b : LineCause falls object line before now fault = subst (λ n. LineCause falls object line n now fault) c a in
      bad_at object lines i line before now fault l (subst (λ (x : Line). LineCause falls object x before now fault) is b)

  -- one line more that was read or passed
  pub left_one : (lines done now : List Line) (i : ℕ) (old new : Line) (before later whole : ℕ) → now ≡ done ++ new ∷ [] → i < length lines → old ≡ get_or lines i old →
      before + all_left done + all_left (drop i lines) ≤ whole → later + left_of new ≤ before + left_of old → later + all_left now + all_left (drop (i + 1) lines) ≤ whole
  left_one lines done now i old new before later whole e l is h k =
      let a = ap all_left e ∙ left_append done new in
      let b : all_left (drop i lines) ≡ left_of old + all_left (drop (i + 1) lines) = ap all_left (left_next lines i old l is) in
      omega arith

  pub length_push : {X : Type 0} (xs ys : List X) (x : X) (i : ℕ) → ys ≡ xs ++ x ∷ [] → length xs ≡ i → length ys ≡ i + 1
  length_push xs ys x i e h = let a = ap length e in let b = length-append xs (x ∷ []) in omega arith
