mod ExactParts
