-- The proofs of the statements in specs/Texts.
use Rattle.texts.proofs.Back.{entries_back, verdict_back, reading_back, row_back}
use Rattle.demands.specs.Texts.{ReadsBack, ReadsBackInto}

pub reads_back : ReadsBack
reads_back n t good h = (verdict_back n t good h, entries_back n t good)

pub reads_back_into : ReadsBackInto
reads_back_into n t good h row room = (reading_back n t good h row room, row_back n t good h row room)
