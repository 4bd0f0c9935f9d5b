-- Laws of a row of ten bytes: where its fields are.
-- Assumes nothing.
use Rattle.std.specs.Prelude.{◌≡◌, refl, Bool, true, false, ◌&&◌, List, ℕ, ◌+◌, ◌-◌, ◌≤◌, leb, ltb, length, get_or, drop}
use Rattle.std.proofs.Common.{◌∙◌, arith, ltb-true, leb-true}
use Rattle.big_endian.specs.Fixed.{read_be8}
use Rattle.body_format.specs.Fields.{got, uvarint_at, fixed_at}
use Rattle.body_format.proofs.Laws.Fields.{place_same, fixed_got}
use Rattle.body_fields.specs.Laws.{never, uvarint-one}
use Rattle.body_rows.specs.Forms.{is_short_row}

both : (a b : Bool) → (a && b) ≡ true → (a ≡ true) × (b ≡ true)
both true b e = (refl, e)
both false b e = never cc

module _ (s : List ℕ) (p : ℕ) (e : is_short_row s p ≡ true) where
  told : (leb 10 (length s - p) ≡ true) × (ltb (get_or s p 0) 128 ≡ true) × (ltb (get_or s (p + 1) 0) 128 ≡ true)
  unfolding is_short_row
  told =
      let a = both (leb 10 (length s - p)) _ e in
      let b = both (ltb (get_or s p 0) 128) _ a.1 in
      (a.0, b.0, b.1)

  pub short_inside : p + 10 ≤ length s
  short_inside = omega (arith, leb-true 10 (length s - p) told.0)

  pub short-id : uvarint_at s p ≡ got (get_or s p 0) (p + 1)
  short-id = uvarint-one s p (omega (arith, short_inside)) (ltb-true (get_or s p 0) 128 told.1)

  pub short-time : uvarint_at s (p + 1) ≡ got (get_or s (p + 1) 0) (p + 2)
  short-time =
      uvarint-one s (p + 1) (omega (arith, short_inside)) (ltb-true (get_or s (p + 1) 0) 128 told.2)
      ∙ place_same (omega arith)

  pub short-bits : fixed_at s (p + 2) ≡ got (read_be8 (drop (p + 2) s)) (p + 10)
  short-bits = fixed_got s (p + 2) (omega (arith, short_inside)) ∙ place_same (omega arith)
