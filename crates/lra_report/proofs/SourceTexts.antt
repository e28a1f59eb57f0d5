-- Reports of one accepted source are given by their texts.
use Rattle.std.proofs.Common.{sym, ◌∙◌, subst}
use Rattle.lra_report.specs.Crates.{lra_syntax.Faults.Language, lra_syntax.Grammar.Spells, lra_syntax.Texts.Pieces, lra_syntax.Trees.FileTree}
use Rattle.lra_report.specs.{Listing.Lists, Report.Report, Spelled.OneAcceptedText, Spelled.OneSourceText}
use Rattle.lra_report.proofs.{LiveWords.accepted_words, OneText.one_report}

pub one_accepted : (r s : Report) → OneAcceptedText r s
one_accepted r s source t a = one_report r s t (accepted_words Spells (λ u z h. h) source t a)

-- of a language whose texts are texts of the grammar
pub one_source : (L : Language) → ((t : FileTree) (z : Pieces) → L t z → Spells t z) → (r s : Report) → OneSourceText L r s
one_source L spelled r s o source one a b readable_r readable_s e =
    one_report r s a.tree (accepted_words L spelled source a.tree a.accepted) a.lists (subst (λ t. Lists t s) (one b.tree a.tree b.accepted a.accepted) b.lists) (a.options ∙ sym b.options)
    readable_r readable_s e
