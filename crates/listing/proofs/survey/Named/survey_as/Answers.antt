use Rattle.std.proofs.Common.{take, sym}
use Rattle.link_text.specs.Fields.{width_of}
use Rattle.link_text.specs.Left.{left}
use Rattle.listing.proofs.Climbed.{as_above}
use Rattle.listing.proofs.survey.Named.survey_as.Goals as goal

pub note-requires : goal.note-requires
note-requires c = as_above c.args.field (take (width_of c.args.field) (left c.args.reader.now)) c.in_ok-number.number c.requires (sym c.in_ok-number.ensures.answer)
