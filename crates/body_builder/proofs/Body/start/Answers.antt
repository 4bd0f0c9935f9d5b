-- `Body::start` meets its contract: its type, and then the buffer's room.
use Rattle.std.proofs.Common.{◌≡◌, ◌∙◌, ℕ, refl, sym, true, false, arith, eqb-true}
use Rattle.std.proofs.lemmas.Bool.{eqb-false}
use Rattle.body_format.specs.Entries.{BodyType, Known, known, unknown}
use Rattle.body_format.proofs.Laws.Additions.{start_no_room, start-used, start-unknown}
use Rattle.body_builder.specs.Sizes.{is_known}
use Rattle.body_builder.proofs.Body.start.Goals as goal

some : (n : Known) → is_known n ≡ true → (k : BodyType) × (n ≡ known k)
some (known k) h = (k, refl)
some unknown h = let z : ◌≡◌ {A = ℕ} 0 1 = cc in absurd (omega arith)

none : (n : Known) → is_known n ≡ false → n ≡ unknown
none (known k) h = let z : ◌≡◌ {A = ℕ} 0 1 = cc in absurd (omega arith)
none unknown h = refl

pub returns-then-not-is_known : goal.returns-then-not-is_known
returns-then-not-is_known c = let e = start-unknown c.args.buffer.now c.args.tag (none _ (sym c.is_known.ensures ∙ c.if-not-is_known.true)) in record { answer = rw e; bytes = rw e }

pub returns-then-is_empty : goal.returns-then-is_empty
returns-then-is_empty c =
    let k = some _ (sym c.is_known.ensures ∙ c.if-not-is_known.false) in
    let e = start_no_room c.args.buffer.now c.args.tag k.0 k.1 (eqb-true _ _ (sym c.is_empty.ensures ∙ c.if-is_empty.true)) in record { answer = rw e; bytes = rw e }

pub returns : goal.returns
returns c =
    let k = some _ (sym c.is_known.ensures ∙ c.if-not-is_known.false) in
    let e = start-used c.args.buffer.now c.args.tag k.0 k.1 (let none = eqb-false _ _ (sym c.is_empty.ensures ∙ c.if-is_empty.false) in omega (arith, none)) in record { answer = rw e; bytes = rw e }
