-- Goals of `map_into`: the set becomes what the form in place of the coordinate x, from 0, makes of it.
use Rattle.lra_calc.proofs.making.map_into.Goals as goal

pub returns-in-Image : goal.returns-in-Image
returns-in-Image c = rw c.in-Image.is c.image.ensures.becomes

pub returns-in-Preimage : goal.returns-in-Preimage
returns-in-Preimage c = rw c.in-Preimage.is c.preimage.ensures.becomes
