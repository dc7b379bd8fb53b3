use Rattle.run_pipes.proofs.filling.FillerEndMakerBufferProducerBuffer.make.Goals as goal

pub returns : goal.returns
returns g c = c.in_ok-filled.ensures
