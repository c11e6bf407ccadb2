-- A record that is written at the front of bytes.
use Rattle.std.proofs.Common.{◌≡◌, ◌⊎◌, inl, inr, ℕ, ◌+◌, ◌<◌, ◌≤◌, List, [], ◌∷◌, ◌++◌, length, take, drop, refl, sym, ◌∙◌, ap, subst, arith, append_assoc, length-append}
use Rattle.std.proofs.lemmas.List.{take_at}
use Rattle.sha2.specs.Sha256.{sha256}
use Rattle.sha2.proofs.Facts256.{length-sha256}
use Rattle.cola_log.specs.Format.{Logged, key_of, value_of, IsShort, head_of, body_of, sum_after, record_of}
use Rattle.cola_log.specs.Appended.{IsLong, IsAppended, IsRefused}
use Rattle.cola_log.proofs.Records.{length_head, length_body, length_record}

-- bytes are written behind those that were written so far
abbrev Writes : (into into' : List ℕ) → ℕ → List ℕ → Type 0
Writes into into' at from = (done rest : List ℕ) → length done ≡ at → into ≡ done ++ drop at rest → into' ≡ (done ++ from) ++ drop (at + length from) rest

pub length_by : (sum : List ℕ) (it : Logged) (key value : List ℕ) → key ≡ key_of it → value ≡ value_of it → length (record_of sum it) ≡ 11 + length key + length value + 32
length_by sum it key value key_is value_is =
    length_record sum it ∙ ap (λ (n : ℕ). n + 32)
    (length_body it ∙ ap (λ (l : List ℕ). 11 + length l + length (value_of it)) (sym key_is) ∙ ap (λ (l : List ℕ). 11 + length key + length l) (sym value_is))

pub refused_small : (sum into : List ℕ) (it : Logged) (key value : List ℕ) → key ≡ key_of it → value ≡ value_of it → length into < 11 + length key + length value + 32 → IsRefused sum sum it into into
refused_small sum into it key value key_is value_is small = record {
  cause = inr (subst (λ (n : ℕ). length into < n) (sym (length_by sum it key value key_is value_is)) small);
  left = refl;
  sum_stays = refl;
}

pub refused_key : (sum into : List ℕ) (it : Logged) (key : List ℕ) → key ≡ key_of it → 255 < length key → IsRefused sum sum it into into
refused_key sum into it key key_is long = record {
  cause = inl (inl (subst (λ (l : List ℕ). 256 ≤ length l) key_is (omega (arith, long))));
  left = refl;
  sum_stays = refl;
}

pub refused_value : (sum into : List ℕ) (it : Logged) (value : List ℕ) → value ≡ value_of it → 255 < length value → IsRefused sum sum it into into
refused_value sum into it value value_is long = record {
  cause = inl (inr (subst (λ (l : List ℕ). 256 ≤ length l) value_is (omega (arith, long))));
  left = refl;
  sum_stays = refl;
}

pub is_short : (it : Logged) (key value : List ℕ) → key ≡ key_of it → value ≡ value_of it → length key ≤ 255 → length value ≤ 255 → IsShort it
is_short it key value key_is value_is k v = record {
  key = subst (λ (l : List ℕ). length l < 256) key_is (omega (arith, k));
  value = subst (λ (l : List ℕ). length l < 256) value_is (omega (arith, v));
}

pub is_appended : (sum into a b c d before key value seal : List ℕ) (it : Logged) → before ≡ head_of it → key ≡ key_of it → value ≡ value_of it →
    length key ≤ 255 → length value ≤ 255 → 11 + length key + length value + 32 ≤ length into →
    Writes into a 0 before → Writes a b 11 key → Writes b c (11 + length key) value →
    seal ≡ sha256 (sum ++ take (11 + length key + length value) c) → Writes c d (11 + length key + length value) seal →
    IsAppended sum seal it into d (11 + length key + length value + 32)
is_appended sum into a b c d before key value seal it before_is key_is value_is k v room w1 w2 w3 seal_is w4 =
    let size : ℕ = 11 + length key + length value in
    let eleven : length before ≡ 11 = ap (λ (l : List ℕ). length l) before_is ∙ length_head it in
    let s1 : a ≡ before ++ drop 11 into = w1 [] into refl refl ∙ ap (λ (n : ℕ). before ++ drop n into) (zero_more (length before) eleven) in
    let s2 : b ≡ (before ++ key) ++ drop (11 + length key) into = w2 before into eleven s1 in
    let l2 : length (before ++ key) ≡ 11 + length key = length-append before key ∙ ap (λ (n : ℕ). n + length key) eleven in
    let s3 : c ≡ ((before ++ key) ++ value) ++ drop size into = w3 (before ++ key) into l2 s2 in
    let l3 : length ((before ++ key) ++ value) ≡ size = length-append (before ++ key) value ∙ ap (λ (n : ℕ). n + length value) l2 in
    let s4 : d ≡ (((before ++ key) ++ value) ++ seal) ++ drop (size + length seal) into = w4 ((before ++ key) ++ value) into l3 s3 in
    let body : (before ++ key) ++ value ≡ body_of it =
    ap (λ (l : List ℕ). (l ++ key) ++ value) before_is ∙ ap (λ (l : List ℕ). (head_of it ++ l) ++ value) key_is ∙ ap (λ (l : List ℕ). (head_of it ++ key_of it) ++ l) value_is in
    let front : take size c ≡ body_of it = ap (take size) s3 ∙ take_at ((before ++ key) ++ value) (drop size into) size l3 ∙ body in
    let sum_is : seal ≡ sum_after sum it = seal_is ∙ ap (λ (l : List ℕ). sha256 (sum ++ l)) front in
    let long : length seal ≡ 32 = ap (λ (l : List ℕ). length l) sum_is ∙ length-sha256 (sum ++ body_of it) in
    record {
      short = is_short it key value key_is value_is k v;
      size_is = sym (length_by sum it key value key_is value_is);
      fits = room;
      written =
          s4
          ∙ ap (λ (n : ℕ). (((before ++ key) ++ value) ++ seal) ++ drop (size + n) into) long
          ∙ ap (λ (l : List ℕ). (l ++ seal) ++ drop (size + 32) into) body
          ∙ ap (λ (l : List ℕ). (body_of it ++ l) ++ drop (size + 32) into) sum_is;
      sum_is = sum_is;
    }
  where
    zero_more : (n : ℕ) → n ≡ 11 → 0 + n ≡ 11
    zero_more n is = omega (arith, is)
