-- `long` meets its contract: the window slides over the message. The invariant: it is the window
-- after the first i bytes.
use Rattle.std.proofs.Common.{rules, arith, ◌≡◌, refl, subst, ◌∙◌, ◌-◌, length, take, drop}
use Rattle.crc32c_format.specs.Method.Fold.{onto290}
use Rattle.crc32c_format.specs.Method.Sparse.{multiple290}
use Rattle.crc32c_format.specs.Method.Parts.{length_part, get_d_part}
use Rattle.crc32c_format.specs.Method.Window.{Window, window-start, window-slide, register-fold}
use Rattle.crc32c.proofs.long.Goals as goal

pub loop-i-init : goal.loop-i-init
loop-i-init c =
    (search rules, refl, window-start onto290 multiple290 2334 c.args.state c.args.m.now (search rules))

pub fold-requires : goal.fold-requires
fold-requires c =
    let b = c in
    let m = b.args.m.now in
    let l = length_part (length m - b.loop-i.i) m b.loop-i.i (omega arith) in
    (omega (arith, c.min-n.ensures), omega (arith, c.min-n.ensures, b.loop-i.invariant.1))

pub slide-requires : goal.slide-requires
slide-requires c =
    let l : length c.fold.new.y ≡ 2338 = omega arith in
    omega (arith, c.min-n.ensures)

pub loop-i-smaller : goal.loop-i-smaller
loop-i-smaller c = omega (arith, c.min-n.ensures)

pub loop-i-preserved : goal.loop-i-preserved
loop-i-preserved c =
    let b = c in
    let m = b.args.m.now in
    let i = b.loop-i.i in
    let n = c.min-n.result in
    let l : length c.fold.new.y ≡ 2338 = omega arith in (
      omega (arith, c.min-n.ensures),
      search rules,
      window-slide onto290 multiple290 m (take (length m - i) (drop i m)) b.loop-i.y c.fold.new.y c.slide.new.y b.args.state i n b.loop-i.invariant.2
          c.fold.ensures c.slide.ensures (omega (arith, c.min-n.ensures, l))
          (λ k. omega (arith, b.type_inv.m k)) (λ j h. get_d_part (length m - i) m i j (omega (arith, c.min-n.ensures))),
    )

pub rest-requires : goal.rest-requires
rest-requires c =
    let m = c.args.m.now in
    let l : length c.clear.new.y ≡ 2338 = omega arith in
    (refl, length_part (length m - (length m - 290)) m (length m - 290) (omega arith) ∙ omega arith, omega (arith, l))

pub returns : goal.returns
returns c =
    let a = c.args in
    let b = c in
    let m = a.m.now in
    let last = length m - 290 in
    c.after_rest.ensures
    ∙ register-fold onto290 multiple290 m (take (length m - last) (drop last m)) b.loop-i.y c.clear.new.y c.rest.new.r a.state last
    (subst (Window onto290 m a.state b.loop-i.y) {x = b.loop-i.i} {y = last} (omega arith) b.loop-i.invariant.2)
    c.clear.ensures c.rest.ensures (λ j h. get_d_part (length m - last) m last j (omega arith)) (omega arith) (search rules)
