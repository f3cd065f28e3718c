mod FileSteps
