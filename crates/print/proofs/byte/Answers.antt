-- The two digits of a byte are its halves.
use Rattle.std.proofs.Common.{rules, false, ◌≡◌, Some}
use Rattle.std.specs.Fmt.{styled_digits_output}
use Rattle.std.proofs.lemmas.Fmt.{hex_byte}
use Rattle.print.specs.Pairs.{hex_pair}
use Rattle.print.proofs.byte.Goals as goal

pub returns : goal.returns
returns g c =
    let digits : styled_digits_output c.in_radix.result c.laid_out.result ≡ Some (hex_pair c.args.byte)
    = rw (c.laid_out.ensures, c.in_radix.ensures, hex_byte false c.args.byte c.ranges.byte.fits) in
    search rules
