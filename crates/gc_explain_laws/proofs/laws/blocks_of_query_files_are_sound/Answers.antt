use Rattle.gc_explain_laws.proofs.SoundBlocks.{match_sound, view_sound}
use Rattle.gc_explain_laws.proofs.laws.blocks_of_query_files_are_sound.Goals as goal

pub returns-clause-matched : goal.returns-clause-matched
returns-clause-matched c = match_sound

pub returns-clause-viewed : goal.returns-clause-viewed
returns-clause-viewed c = view_sound
