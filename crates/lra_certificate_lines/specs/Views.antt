-- What faults of the code stand for.
use Rattle.lra_certificate_lines.specs.declared.refusals.LineFault.{LineFault}
use Rattle.lra_certificate_lines.specs.declared.refusals.LineFault.TheVariants.{TooLong, BadLine, Wide, NotRow}
use Rattle.lra_certificate_spec.specs.Judged as judged

abbrev pub fault_view : LineFault → judged.LineFault
fault_view TooLong = judged.too_long
fault_view BadLine = judged.bad_line
fault_view Wide = judged.wide_line
fault_view NotRow = judged.not_row
