use Rattle.application_http.proofs.content.put_body.Goals as goal

pub returns-in-NoBody-clause-lacks_end : goal.returns-in-NoBody-clause-lacks_end
returns-in-NoBody-clause-lacks_end c = rw c.in-NoBody.is c.put_sized.ensures.lacks_end

pub returns-in-Length-clause-lacks_end : goal.returns-in-Length-clause-lacks_end
returns-in-Length-clause-lacks_end c = rw c.in-Length.is c.put_sized-in-Length.ensures.lacks_end

pub returns-in-Chunked-clause-lacks_end : goal.returns-in-Chunked-clause-lacks_end
returns-in-Chunked-clause-lacks_end c = rw c.in-Chunked.is c.put_chunks.ensures.lacks_end

pub returns-in-UntilClose-clause-lacks_end : goal.returns-in-UntilClose-clause-lacks_end
returns-in-UntilClose-clause-lacks_end c = rw c.in-UntilClose.is c.put_last.ensures.lacks_end
