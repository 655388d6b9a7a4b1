use Rattle.std.proofs.Common.{rules}
use Rattle.http_hub.proofs.link.Link.receive.Goals as goal

pub returns-clause-received : goal.returns-clause-received
returns-clause-received g c =
    record {
      replies = c.in_ok-replies.replies.items;
      session = c.feed.new.self;
      feeds = search rules;
      none_pending = search rules;
      request_length = c.held_request_len-self-inside.result;
      is_request_length = search rules;
      after_is = search rules;
    }
