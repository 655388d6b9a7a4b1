use Rattle.http_requests.proofs.CutLemmas.{determined, concatenated, ends, prefix}
use Rattle.http_requests.proofs.laws.streams_can_be_cut.Goals as goal

pub returns : goal.returns
returns c = record {
  determined = determined;
  concatenated = concatenated;
  ended = ends;
  prefix = prefix;
}
